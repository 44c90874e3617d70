-- Direct predecessors of an event, by the place where they stand in the file.
use Rattle.std.specs.Prelude.{◌≡◌, ℕ, ◌+◌, List, ◌⊎◌}
use Rattle.run_events.specs.declared.event.EventName.{EventName}
use Rattle.run_events.specs.declared.key.KeyMark.{KeyMark}
use Rattle.log_closure.specs.Events.{LogEvent, marks, In, HasMark}
use Rattle.log_closure.specs.Predecessors.{next}

-- one of the events has the name before this one, if this one isn't the first of its thread
abbrev pub ThreadHolds : List LogEvent → EventName → Type 0
ThreadHolds set name = (n : ℕ) → name.index ≡ n + 1 → (e : LogEvent) × In e set ×
    (e.name ≡ record { thread = name.thread; index = n })

-- the event e, which stands after these in the file, is a direct predecessor of f there
abbrev pub LeadsTo : LogEvent → List LogEvent → LogEvent → Type 0
LeadsTo f before e = ((e.name.thread ≡ f.name.thread) × (f.name.index ≡ e.name.index + 1)) ⊎
    ((m : KeyMark) × In (next m) (marks f) × (HasMark before m → ⊥) × In m (marks e))

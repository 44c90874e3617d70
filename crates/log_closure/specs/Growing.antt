-- How the closed part grows along events in the order of their clocks.
use Rattle.std.specs.Prelude.{◌≡◌, ◌↔◌, Bool, true, if◌then◌else◌, List, [], ◌∷◌, ◌++◌}
use Rattle.std.specs.List.{list_all}
use Rattle.log_closure.specs.Events.{LogEvent, In}
use Rattle.log_closure.specs.Ties.{listed, ties, ties_of, needs}
use Rattle.log_closure.specs.Closed.{Ordered}

-- the direct predecessors of the event are among these events
abbrev pub has_before : List LogEvent → LogEvent → Bool
has_before es e = list_all (listed (ties_of es)) (needs (ties e))

-- kept events that hold the direct predecessors of each of them
abbrev pub HoldsBefore : List LogEvent → List LogEvent → Type 0
HoldsBefore all set = (e : LogEvent) → In e set → In e all × (has_before set e ≡ true)

-- the union of all such sets has the event
abbrev pub IsHeld : List LogEvent → LogEvent → Type 0
IsHeld all e = (set : List LogEvent) × HoldsBefore all set × In e set

-- the union, in order
abbrev pub IsGrownPart : List LogEvent → List LogEvent → Type 0
IsGrownPart all part = ((e : LogEvent) → In e part ↔ IsHeld all e) × Ordered part

abbrev pub grown : List LogEvent → LogEvent → List LogEvent
grown part e = if has_before part e then part ++ e ∷ [] else part

abbrev pub grow : List LogEvent → List LogEvent → List LogEvent
grow part [] = part
grow part (e ∷ es) = grow (grown part e) es

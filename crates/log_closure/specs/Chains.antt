-- Causal chains, and counts along an order.
use Rattle.std.specs.Prelude.{◌≡◌, ℕ, ◌==◌, List, ◌∷◌, ◌++◌}
use Rattle.std.specs.List.{count_by}
use Rattle.causal_order.specs.Order.{is_listed}
use Rattle.causal_order.specs.Order as order
use Rattle.run_events.specs.declared.key.Key.{Key}
use Rattle.run_events.specs.declared.key.KeyMark.{KeyMark}
use Rattle.log_closure.specs.Events.{LogEvent, marks, numbered, In}

-- the clock is the length of the longest chain that ends in the event
abbrev pub IsClock : List LogEvent → LogEvent → Type 0
IsClock set e = order.IsClock numbered set e.entry.clock e

-- how many of the events are of the thread
abbrev pub thread_count : ℕ → List LogEvent → ℕ
thread_count t es = count_by (λ (e : LogEvent). (e.name.thread == t)) es

-- how many of the events have the key
abbrev pub key_count : Key → List LogEvent → ℕ
key_count k es = count_by (λ (e : LogEvent). is_listed (marks e) k) es

-- along the list each index is the number of events of the thread before it, and each ticket the number of
-- events before it that have the key
abbrev pub CountUp : List LogEvent → Type 0
CountUp part = (before : List LogEvent) (e : LogEvent) (after : List LogEvent) → part ≡ before ++ e ∷ after
    → (e.name.index ≡ thread_count e.name.thread before) ×
    ((m : KeyMark) → In m (marks e) → m.ticket ≡ key_count m.key before)

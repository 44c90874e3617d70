-- The events of a log: its records, with the names that file order gives them.
use Rattle.std.specs.Prelude.{◌≡◌, ℕ, Bool, ◌==◌, List, [], ◌∷◌, ◌++◌}
use Rattle.std.specs.List.{count_by}
use Rattle.causal_order.specs.Order.{Link, OfThread, OfKey}
pub use Rattle.causal_order.specs.Order.{In}
use Rattle.run_events.specs.declared.key.KeyMark.{KeyMark}
use Rattle.run_events.specs.declared.event.EventName.{EventName}
use Rattle.run_events.specs.declared.event.Record.{Record}

-- an event: its name and its record
pub record LogEvent : Type 0 where
  pub name : EventName
  pub entry : Record

-- its keys with their tickets
abbrev pub marks : LogEvent → List KeyMark
marks e = e.entry.keys

-- how many of the records are of the thread
abbrev pub of_thread : ℕ → List Record → ℕ
of_thread t rs = count_by (λ (r : Record). (r.thread == t)) rs

-- the event of a record that stands after these in the file
abbrev pub event_of : List Record → Record → LogEvent
event_of before r = record {
  name = record { thread = r.thread; index = of_thread r.thread before };
  entry = r;
}

-- the events of records that stand after these in the file
abbrev pub events_after : List Record → List Record → List LogEvent
events_after before [] = []
events_after before (r ∷ rs) = event_of before r ∷ events_after (before ++ r ∷ []) rs

-- the events of a file: each record with the index that file order gives it in its thread
abbrev pub events_of : List Record → List LogEvent
events_of rs = events_after [] rs

-- the events numbered by each link: those of a thread by index, those with a key by ticket
abbrev pub numbered : LogEvent → Link → ℕ → Type 0
numbered e (OfThread t) n = (e.name.thread ≡ t) × (e.name.index ≡ n)
numbered e (OfKey k) n = In (record { key = k; ticket = n }) (marks e)

-- one of the events has the key with the ticket
abbrev pub HasMark : List LogEvent → KeyMark → Type 0
HasMark es m = (e : LogEvent) × In e es × In m (marks e)

-- events in an order, and whether they are of a whole log
pub record Part : Type 0 where
  pub events : List LogEvent
  pub whole : Bool

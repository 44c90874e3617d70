-- Which runs stamps stand for, and which numbers the rules of runs ask of the next mark.
use Rattle.std.specs.Prelude.{◌≡◌, ℕ, suc, ◌+◌, ◌<◌, ◌^◌, true, List, [], ◌∷◌, map, length, slice_index, slice_set}
use Rattle.std.specs.List.{AllByRecursion}
use Rattle.run_events.specs.declared.key.KeyMark.{KeyMark}
use Rattle.run_events.specs.declared.event.Stamp.{Stamp}
use Rattle.marks.specs.Places.{thread_count}
use Rattle.marks.specs.Marks.{EventKind, Act, Turn, Load, Store, Enter, Leave, Step, Fault, Made, Mark, is_event}
use Rattle.marks.specs.Bytes.{Byte}
use Rattle.logical_clock.specs.Events.{Occurrence, occurrence}
use Rattle.logical_clock.specs.Counts.{Counts, Reached}
use Rattle.logical_clock.specs.Counts as clocks
use Rattle.replay_runs.specs.Runs.{Link, OfThread, Start, has, ticket, clock_of, steps_of, counts, marks_of, events_with, steps_since, last_clock}
use Rattle.replay_runs.specs.Laws.{fresh}
use Rattle.steps_above_stamps.specs.State.{StampsState}
use Rattle.run_events.specs.Tickets.{with_tickets}
use Rattle.steps_above_stamps.specs.Tickets.{IsInRange}
use Rattle.steps_above_stamps.specs.declared.stamps.EventStamp.{EventStamp}

-- ---- the events of a run

-- an event by its thread and its keys; any other mark is none
abbrev pub and_event : (thread : ℕ) → Act → List Occurrence → List Occurrence
and_event t Turn past = past
and_event t (Load origin at bytes) past = past
and_event t (Store origin at bytes) past = past
and_event t (Enter func args at bytes) past = past
and_event t (Leave at size) past = past
and_event t (Step func args result ins pieces freed) past = past
and_event t (Fault kind crosses ins outs access) past = past
and_event t (Made e) past = occurrence t (map (λ (q : KeyMark). q.key) e.keys) ∷ past

-- the events of a list of marks, the newest first
abbrev pub occurrences : List Mark → List Occurrence
occurrences [] = []
occurrences (m ∷ past) = and_event m.thread m.act (occurrences past)

-- ---- what stamps stand for

-- what holds of all stamps
pub record IsSound (s : StampsState) : Type 0 where
  pub reached : Reached s.clocks
  pub clocks : length s.clocks.threads ≡ thread_count
  pub steps : length s.steps ≡ thread_count

-- the stamps are those after these marks, from a start at which nothing was done: the clocks count the
-- events, whose own clocks are those that are counted, and of each thread the steps since its last event
pub record AreStampsOf (memory : ℕ → Byte) (past : List Mark) (s : StampsState) : Type 0 where
  pub counts : Counts (occurrences past) s.clocks
  pub clocks : (l : Link) → last_clock (events_with (fresh memory) l past) ≡
      clocks.last_clock (occurrences past) l
  pub steps : (t : ℕ) → t < thread_count →
      slice_index s.steps t ≡ steps_since (marks_of (fresh memory) t past)

-- no mark was made
abbrev pub Begins : StampsState → Type 0
Begins s = (memory : ℕ → Byte) → AreStampsOf memory [] s

-- whatever run the old stamps are of, the new ones are of it with each mark that is a step of the thread
abbrev pub CountsStep : (thread : ℕ) → StampsState → StampsState → Type 0
CountsStep t old new = (memory : ℕ → Byte) (past : List Mark) (m : Mark) → m.thread ≡ t →
    counts m.act ≡ 1 → AreStampsOf memory past old → AreStampsOf memory (m ∷ past) new

-- with so many more steps of the thread
abbrev pub with_steps : (thread count : ℕ) → StampsState → StampsState
with_steps t n s = record { clocks = s.clocks; steps = slice_set s.steps t (slice_index s.steps t + n) }

-- so many steps of the thread, for which there is a place, are counted
pub record CountsSteps (t n : ℕ) (old new : StampsState) : Type 0 where
  pub there : t < length old.steps
  pub counted : new ≡ with_steps t n old

-- ---- the next event

-- the numbers of a mark are those that the rules of runs ask for
pub record IsStamped (s : Start) (past : List Mark) (m : Mark) : Type 0 where
  pub index : m.index ≡ length (events_with s (OfThread m.thread) past)
  pub steps : is_event m.act ≡ true → steps_of m.act ≡ steps_since (marks_of s m.thread past)
  pub tickets : (l : Link) → has m l ≡ true → ticket m l ≡ length (events_with s l past)
  pub rises : (l : Link) → has m l ≡ true → last_clock (events_with s l past) < clock_of m.act
  pub least : is_event m.act ≡ true → (l : Link) × (has m l ≡ true) ×
      (clock_of m.act ≡ suc (last_clock (events_with s l past)))

-- the clock and the tickets of the clocks' stamp, with the steps and the keys
abbrev pub stamp_of : (steps : ℕ) → Stamp → List KeyMark → EventStamp
stamp_of steps s keys = record {
  steps = steps;
  clock = s.clock;
  keys = with_tickets keys s.tickets;
}

-- the numbers are in the ranges that a record has for them
pub record CanBeRecorded (s : EventStamp) : Type 0 where
  pub steps : s.steps < 2 ^ 32
  pub clock : s.clock < 2 ^ 32
  pub keys : AllByRecursion IsInRange s.keys

-- an event of this kind, with the numbers of the stamp
abbrev pub event_with : EventKind → EventStamp → Act
event_with kind s = Made (record { kind = kind; steps = s.steps; keys = s.keys; clock = s.clock })

-- the mark is the thread's next event, of any kind, with the numbers of the stamp
pub record IsNextEvent (memory : ℕ → Byte) (past : List Mark) (thread : ℕ) (s : EventStamp) (m : Mark) :
    Type 0 where
  pub of_thread : m.thread ≡ thread
  pub index : m.index ≡ length (events_with (fresh memory) (OfThread thread) past)
  pub kind : EventKind
  pub act : m.act ≡ event_with kind s

-- whatever run the stamps are of, the thread's next event with this stamp has the numbers that it must have
abbrev pub IsStampAfter : StampsState → (thread : ℕ) → EventStamp → Type 0
IsStampAfter old t s = (memory : ℕ → Byte) (past : List Mark) (m : Mark) → AreStampsOf memory past old →
    IsNextEvent memory past t s m → IsStamped (fresh memory) past m

-- and the new stamps are of the run with that event
abbrev pub CountsEvent : (thread : ℕ) → EventStamp → StampsState → StampsState → Type 0
CountsEvent t s old new = (memory : ℕ → Byte) (past : List Mark) (m : Mark) → AreStampsOf memory past old →
    IsNextEvent memory past t s m → AreStampsOf memory (m ∷ past) new

-- the new stamps are of the runs that the old ones are of
abbrev pub CountsNoMore : StampsState → StampsState → Type 0
CountsNoMore old new = (memory : ℕ → Byte) (past : List Mark) → AreStampsOf memory past old →
    AreStampsOf memory past new

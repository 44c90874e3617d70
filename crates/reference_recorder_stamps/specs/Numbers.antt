-- What the numbers of an event come from, as looks back over the marks before it.
use Rattle.std.specs.Prelude.{◌≡◌, ℕ, ◌<◌, max, List, [], ◌∷◌, length, map}
use Rattle.run_events.specs.declared.key.Key.{Key}
use Rattle.run_events.specs.declared.key.KeyMark.{KeyMark}
use Rattle.marks.specs.Marks.{Mark}
use Rattle.marks.specs.Bytes.{Byte}
use Rattle.replay_runs.specs.Runs.{Link, OfThread, OfKey, last_clock, new_events, marks_of, steps_since}
use Rattle.replay_runs.specs.Laws.{fresh}
use Rattle.run_events.specs.Tickets.{with_ticket}
use Rattle.steps_above_stamps.specs.Stamps.{IsNextEvent, IsStamped}
use Rattle.steps_above_stamps.specs.declared.stamps.EventStamp.{EventStamp}
use Rattle.whole_runs.specs.Sides.{seen}

-- the number of events with the key
abbrev pub ticket_of : (past : List Mark) → Key → ℕ
ticket_of past k = length (new_events (OfKey k) past)

abbrev pub ticketed : (past : List Mark) → List Key → List KeyMark
ticketed past ks = map (λ k. with_ticket (ticket_of past k) k) ks

-- the greatest clock of the events that come directly before an event of the thread with these keys
abbrev pub latest : (past : List Mark) → (thread : ℕ) → List Key → ℕ
latest past t [] = last_clock (new_events (OfThread t) past)
latest past t (k ∷ ks) = max (last_clock (new_events (OfKey k) past)) (latest past t ks)

-- one more than each clock is a number of 32 bits
abbrev pub ClocksFit : List Mark → Type 0
ClocksFit past = (l : Link) → last_clock (new_events l past) < 4294967295

-- each event stands above the cut
abbrev pub SeesEvents : List Mark → Type 0
SeesEvents past = (l : Link) → new_events l past ≡ new_events l (seen past)

-- the steps of the thread above the cut since its last event
abbrev pub AreSteps : List Mark → (thread steps : ℕ) → Type 0
AreSteps past t n = (memory : ℕ → Byte) → n ≡ steps_since (marks_of (fresh memory) t (seen past))

-- the thread's next event, of any kind, has with this stamp the numbers that it must have
abbrev pub IsStampOf : (past : List Mark) → (thread : ℕ) → EventStamp → Type 0
IsStampOf past t s = (memory : ℕ → Byte) (m : Mark) → IsNextEvent memory (seen past) t s m →
    IsStamped (fresh memory) (seen past) m

-- Events and steps are at most as many as the marks.
use Rattle.std.proofs.Common.{ℕ, suc, ◌+◌, ◌≤◌, Bool, true, false, cond, eqb, List, [], ◌∷◌, length, arith}
use Rattle.marks.specs.Marks.{Act, Turn, Load, Store, Enter, Leave, Step, Fault, Made, Mark, is_event}
use Rattle.marks.specs.Bytes.{Byte}
use Rattle.logical_clock.specs.Events.{Occurrence}
use Rattle.replay_runs.specs.Runs.{counts, marks_of, steps_since}
use Rattle.replay_runs.specs.Laws.{fresh}
use Rattle.steps_above_stamps.specs.State.{StampsState}
use Rattle.steps_above_stamps.specs.Stamps.{AreStampsOf, and_event, occurrences}
use Rattle.steps_above_stamps.specs.Laws.{AreFew}

event_few : (t : ℕ) (a : Act) (past : List Occurrence) (n : ℕ) → length past ≤ n → length (and_event t a past) ≤ suc n
event_few t Turn past n h = omega (arith, h)
event_few t (Load origin at bytes) past n h = omega (arith, h)
event_few t (Store origin at bytes) past n h = omega (arith, h)
event_few t (Enter func args at bytes) past n h = omega (arith, h)
event_few t (Leave at size) past n h = omega (arith, h)
event_few t (Step func args result ins pieces freed) past n h = omega (arith, h)
event_few t (Fault kind crosses ins outs access) past n h = omega (arith, h)
event_few t (Made e) past n h = omega (arith, h)

events_few : (past : List Mark) → length (occurrences past) ≤ length past
events_few [] = omega arith
events_few (m ∷ past) = event_few m.thread m.act (occurrences past) (length past) (events_few past)

one_step : (a : Act) (since n : ℕ) → since ≤ n → cond (is_event a) 0 (counts a + since) ≤ suc n
one_step Turn since n h = omega (arith, h)
one_step (Load origin at bytes) since n h = omega (arith, h)
one_step (Store origin at bytes) since n h = omega (arith, h)
one_step (Enter func args at bytes) since n h = omega (arith, h)
one_step (Leave at size) since n h = omega (arith, h)
one_step (Step func args result ins pieces freed) since n h = omega (arith, h)
one_step (Fault kind crosses ins outs access) since n h = omega (arith, h)
one_step (Made e) since n h = omega arith

steps_few : (memory : ℕ → Byte) (t : ℕ) (past : List Mark) → steps_since (marks_of (fresh memory) t past) ≤ length past
steps_few memory t [] = omega arith
steps_few memory t (m ∷ past) = go (eqb m.thread t) (steps_few memory t past)
  where
    go : (b : Bool) → steps_since (marks_of (fresh memory) t past) ≤ length past → steps_since (cond b (m ∷ marks_of (fresh memory) t past) (marks_of (fresh memory) t past)) ≤ suc (length past)
    go true h = one_step m.act (steps_since (marks_of (fresh memory) t past)) (length past) h
    go false h = omega (arith, h)

pub are_few : (memory : ℕ → Byte) (past : List Mark) (s : StampsState) → AreStampsOf memory past s → AreFew past s
are_few memory past s h = record { events = omega (arith, h.counts.events, events_few past); steps = λ t lt. omega (arith, h.steps t lt, steps_few memory t past) }

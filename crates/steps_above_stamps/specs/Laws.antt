-- What stamps have to do with marks.
use Rattle.std.specs.Prelude.{◌≡◌, ℕ, suc, ◌<◌, ◌≤◌, true, false, [], List, ◌∷◌, length, slice_index}
use Rattle.run_events.specs.declared.key.Key.{Key}
use Rattle.marks.specs.Places.{thread_count}
use Rattle.marks.specs.Marks.{Mark, is_event}
use Rattle.marks.specs.Bytes.{Byte}
use Rattle.logical_clock.specs.Events.{AreDistinct}
use Rattle.replay_runs.specs.Runs.{Start, OfThread, clock_of, events_with, is_fault, keys_of, last_clock}
use Rattle.replay_runs.specs.Keys.{sorted_keys}
use Rattle.steps_above_stamps.specs.State.{StampsState}
use Rattle.steps_above_stamps.specs.Stamps.{AreStampsOf, IsStamped}

-- a fault is no step
abbrev pub FaultsLeaveTheStamps : Type 0
FaultsLeaveTheStamps = (memory : ℕ → Byte) (past : List Mark) (m : Mark) (s : StampsState) →
    is_fault m.act ≡ 1 → AreStampsOf memory past s → AreStampsOf memory (m ∷ past) s

-- a mark that is no event needs no numbers but its index
abbrev pub PlainMarksAreStamped : Type 0
PlainMarksAreStamped = (s : Start) (past : List Mark) (m : Mark) → is_event m.act ≡ false →
    m.index ≡ length (events_with s (OfThread m.thread) past) → IsStamped s past m

-- the clock of an event without keys, as a Stop, is one more than that of its thread's last event
abbrev pub KeylessEventsFollowTheirThread : Type 0
KeylessEventsFollowTheirThread = (s : Start) (past : List Mark) (m : Mark) → is_event m.act ≡ true →
    keys_of m.act ≡ [] → IsStamped s past m →
    clock_of m.act ≡ suc (last_clock (events_with s (OfThread m.thread) past))

-- what stamps count is at most the number of the marks
pub record AreFew (past : List Mark) (s : StampsState) : Type 0 where
  pub events : s.clocks.events ≤ length past
  pub steps : (t : ℕ) → t < thread_count → slice_index s.steps t ≤ length past

abbrev pub StampsAreFew : Type 0
StampsAreFew = (memory : ℕ → Byte) (past : List Mark) (s : StampsState) → AreStampsOf memory past s →
    AreFew past s

-- keys in order, each once, are distinct
abbrev pub KeysOfEventsAreDistinct : Type 0
KeysOfEventsAreDistinct = (keys : List Key) → AreDistinct (sorted_keys keys)

-- Each event has numbers.
use Rattle.std.proofs.Common.{◌≡◌, ℕ, suc, ◌<◌, List, map, length, refl}
use Rattle.std.specs.Prelude.{slice_index}
use Rattle.run_events.specs.declared.key.Key.{Key}
use Rattle.run_events.specs.declared.key.KeyMark.{KeyMark}
use Rattle.marks.specs.declared.side.Side.TheVariants.{Replay}
use Rattle.marks.specs.Places.{thread_count}
use Rattle.marks.specs.Marks.{EventKind, Event, Mark}
use Rattle.marks.specs.Bytes.{Byte}
use Rattle.logical_clock.specs.Events.{occurrence, count}
use Rattle.logical_clock.specs.Counts.{latest}
use Rattle.logical_clock.specs.Counts as counted
use Rattle.logical_clock.proofs.Longest.{longest}
use Rattle.replay_runs.specs.Runs.{OfThread, OfKey, events_with}
use Rattle.replay_runs.specs.Laws.{fresh}
use Rattle.steps_above_stamps.specs.State.{StampsState}
use Rattle.steps_above_stamps.specs.Stamps.{occurrences, AreStampsOf, IsStamped, event_with}
use Rattle.steps_above_stamps.specs.declared.stamps.EventStamp.{EventStamp}
use Rattle.steps_above_stamps.proofs.Stamped.{IsNext, ticketed, keys_ticketed, made_stamped}

module _ (memory : ℕ → Byte) (past : List Mark) (old : StampsState) (t : ℕ) (keys : List Key) where
  abbrev pub numbers : EventStamp
  numbers = record {
    steps = slice_index old.steps t;
    clock = suc (latest (counted.last_clock (occurrences past)) (occurrence t keys));
    keys = ticketed (λ k. count (OfKey k) (occurrences past)) keys;
  }

  pub have_keys : map (λ (q : KeyMark). q.key) numbers.keys ≡ keys
  have_keys = keys_ticketed (λ k. count (OfKey k) (occurrences past)) keys

  pub are_numbers : (kind : EventKind) (index : ℕ) → t < thread_count → index ≡ length (events_with (fresh memory) (OfThread t) past) → AreStampsOf memory past old
      → IsStamped (fresh memory) past (record { thread = t; side = Replay; index = index; act = event_with kind numbers })
  are_numbers kind index few place stamps =
      let e : Event = record { kind = kind; steps = numbers.steps; keys = numbers.keys; clock = numbers.clock } in
      let next : IsNext memory past old t index e keys = record { thread = few; place = place; steps = refl; keys = refl; clock = longest (occurrences past) (occurrence t keys) } in
      made_stamped memory past old t index Replay e keys stamps next

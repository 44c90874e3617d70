-- How a run ends where there is no room for its next event.
use Rattle.std.proofs.Common.{◌≡◌, ℕ, [], length, map, Some, refl, ap}
use Rattle.run_events.specs.declared.event.Event.{Event as Logged}
use Rattle.run_events.specs.declared.key.KeyMark.{KeyMark}
use Rattle.marks.specs.Marks.{EventKind}
use Rattle.replay_runs.specs.Runs.{OfThread}
use Rattle.steps_above_stamps.specs.declared.stamps.EventStamp.{EventStamp}
use Rattle.whole_runs.specs.declared.ending.Ending.{Ending}
use Rattle.whole_runs.specs.World.{World}
use Rattle.whole_runs.specs.Sides.{seen}
use Rattle.whole_runs.specs.Steps.{Picked, IsMade}
use Rattle.whole_runs_laws.proofs.FaultsAbove.{events_seen}
use Rattle.recorder_memory.specs.Stands.{placed}
use Rattle.recorder_state.specs.declared.state.RunState.{RunState}
use Rattle.recorder_state.specs.Stands.{IsReached}
use Rattle.recorder_state.specs.Ends.{IsEnded}
use Rattle.recorder_events.specs.Room.{HasSizeOf, IsRoomOrEnd}
use Rattle.recorder_events.specs.Making.{CanBe, event_mark, next_keys}
use Rattle.recorder_events.proofs.Few.{thread_few}
use Rattle.recorder_events.proofs.Made.{event_made}
use Rattle.recorder_events.proofs.Numbers.{numbers, have_keys, are_numbers}

module _ (w : World) (s : RunState) (r : IsReached w s) (step : Picked w r.past) (kind : EventKind) (can : CanBe w r.past step kind) where
  -- the numbers that the event would have
  abbrev stamp : EventStamp
  stamp = numbers (placed w) (seen r.past) s.stamps step.thread (next_keys w step.thread r.past kind)

  have : map (λ (q : KeyMark). q.key) stamp.keys ≡ next_keys w step.thread r.past kind
  have = have_keys (placed w) (seen r.past) s.stamps step.thread (next_keys w step.thread r.past kind)

  would_be : IsMade w r.past step (event_mark w r.past step kind stamp)
  would_be = event_made w r.past step kind stamp can have
      (are_numbers (placed w) (seen r.past) s.stamps step.thread (next_keys w step.thread r.past kind) kind _
      (thread_few w r.fit r.past step step.thread refl) (ap length (events_seen w r.past r.follows (OfThread step.thread))) r.around.shown.stamps)

  -- the size of its record
  abbrev pub IsSized : Logged → (keys : ℕ) → Type 0
  IsSized e n = (stamp : EventStamp) → map (λ (q : KeyMark). q.key) stamp.keys ≡ next_keys w step.thread r.past kind → HasSizeOf e n (event_mark w r.past step kind stamp)

  pub ends_full : (e : Logged) (n : ℕ) (end : Ending) → IsSized e n → IsRoomOrEnd s.book e n (Some end) → IsEnded w s end
  ends_full e n end sized full = record {
    fit = r.fit;
    past = r.past;
    follows = r.follows;
    last = [];
    ends = full w r.past step (event_mark w r.past step kind stamp) r.around.shown.book (sized stamp have) (record { made = would_be; event = refl });
    spaces = r.memory.above.spaces;
    shown = r.around.shown;
  }

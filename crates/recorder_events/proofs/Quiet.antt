-- An Up or UpRet, from its tests to its record.
use Rattle.std.proofs.Common.{ℕ, List, length, Some, None, sym, ap, ◌∙◌}
use Rattle.std.proofs.lemmas.List.{length-map}
use Rattle.run_events.specs.declared.event.Event.{Event as Logged}
use Rattle.run_events.specs.declared.key.Key.{Key}
use Rattle.run_events.specs.declared.key.KeyMark.{KeyMark}
use Rattle.whole_runs.specs.declared.ending.Ending.{Ending}
use Rattle.whole_runs.specs.World.{World}
use Rattle.recorder_memory.specs.declared.memory.Memory.{Memory}
use Rattle.recorder_memory.specs.Events.{Makes}
use Rattle.recorder_state.specs.declared.state.RunState.{RunState}
use Rattle.recorder_state.specs.Ends.{IsEnded}
use Rattle.recorder_events.specs.Room.{IsRoomOrEnd}
use Rattle.recorder_events.specs.Making.{IsCallBackNext, IsComing, IsEventStep, IsRecorded}
use Rattle.recorder_events.proofs.Ending.{IsSized, ends_full}
use Rattle.recorder_events.proofs.Sized.{event_sized}
use Rattle.recorder_events.proofs.Steps.{coming, step_made}

module _ (w : World) (s : RunState) (t : ℕ) (keys : List Key) (event : Logged) (n : IsCallBackNext w s t keys event) where
  is_sized : IsSized w s n.reached n.step n.kind n.can_be event (length keys)
  is_sized stamp have = event_sized w n.reached.past n.step n.kind stamp (length keys) (sym (length-map stamp.keys (λ (q : KeyMark). q.key)) ∙ ap length (have ∙ n.keys_are)) event n.event_is

  pub ends : (end : Ending) → IsRoomOrEnd s.book event (length keys) (Some end) → IsEnded w s end
  ends end full = ends_full w s n.reached n.step n.kind n.can_be event (length keys) end is_sized full

  abbrev pub coming_so : (memory : Memory) → IsComing w (record s { memory = memory }) t keys event
  coming_so memory = coming w s t n.reached n.step n.thread n.kind n.can_be keys n.keys_are memory event n.event_is

  pub made_so : (memory : Memory) (new : RunState) → Makes s.memory t keys n.kind memory → IsRoomOrEnd s.book event (length keys) None
      → IsRecorded w n.reached.past n.step n.kind keys (record s { memory = memory }) new → IsEventStep w new t n.step.want n.answer
  made_so memory new makes room recorded = step_made w s t n.reached n.step n.thread n.kind n.can_be keys n.keys_are memory event (length keys) n.answer new n.goes_on makes is_sized room n.answers recorded

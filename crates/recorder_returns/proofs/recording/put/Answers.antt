use Rattle.run_events.specs.declared.key.Key.{Key}
use Rattle.recorder_events.specs.Room.{IsRoomOrEnd}
use Rattle.std.proofs.Common.{List, None, ℕ, ◌<◌, length, sym, ap, ◌∙◌, subst}
use Rattle.whole_runs.specs.Sides.{events_by}
use Rattle.recorder_state.specs.declared.state.RunState.{RunState}
use Rattle.recorder_state.specs.Inputs.{world_of}
use Rattle.recorder_events.proofs.Few.{thread_few}
use Rattle.recorder_returns.proofs.Made.{coming_so, few, made_so}
use Rattle.recorder_returns.proofs.Recorded.{index_small, is_open, lack, used_sizes}
use Rattle.recorder_returns.proofs.recording.put.Goals as goal

pub return_above-requires-clause-in_range : goal.return_above-requires-clause-in_range
return_above-requires-clause-in_range c = let r = c.requires.next.2.next in thread_few _ r.fit r.past r.step c.args.thread r.thread

pub return_above-requires-clause-open : goal.return_above-requires-clause-open
return_above-requires-clause-open c = is_open _ c.args.state.now c.args.thread c.args.func _ _ c.requires.next.2.next c.args.returning.now c.requires.next.2.is_said

pub return_above-requires-clause-sizes : goal.return_above-requires-clause-sizes
return_above-requires-clause-sizes c = used_sizes _ c.args.state.now c.args.thread c.args.func _ _ c.requires.next.2.next c.args.returning.now c.requires.next.2.is_said c.used-used.result.now c.used-used.ensures

pub return_above-requires-clause-few : goal.return_above-requires-clause-few
return_above-requires-clause-few c = c.requires.next.2.next.few

pub lack_of_memory-requires : goal.lack_of_memory-requires
lack_of_memory-requires c = lack _ c.args.state.now c.args.thread c.args.func _ _ c.requires.next.2.next c.args.returning.now c.requires.next.2.is_said c.used-used.result.now c.commit.result c.used-used.ensures c.commit.ensures c.in-Err.refusal c.in-Err.ensures.refused

pub make_event-requires-clause-coming : goal.make_event-requires-clause-coming
make_event-requires-clause-coming c = coming_so _ c.args.state.now c.args.thread c.args.func _ _ c.args.returning.now c.args.ranges.now c.args.event c.requires.next.2 c.as_slice-keys.result.now c.as_slice-keys.ensures.value c.return_above.new.self

pub make_event-requires-clause-keys : goal.make_event-requires-clause-keys
make_event-requires-clause-keys c = few _ c.args.state.now c.args.thread c.args.func _ _ c.args.returning.now c.args.ranges.now c.args.event c.requires.next.2 c.as_slice-keys.result.now c.as_slice-keys.ensures.value

pub make_event-requires-clause-event : goal.make_event-requires-clause-event
make_event-requires-clause-event c = c.requires.next.2.body

pub next_index-index-requires-clause-run : goal.next_index-index-requires-clause-run
next_index-index-requires-clause-run c = let r = c.requires.next.2.next in (world_of c.args.inputs, r.past, r.around.shown.book, index_small _ c.args.state.now c.args.thread c.args.func _ _ r)

pub note-requires-clause-func : goal.note-requires-clause-func
note-requires-clause-func c =
    let r = c.requires.next.2.next in
    let q = c.in_default-make_event.ensures (coming_so _ c.args.state.now c.args.thread c.args.func _ _ c.args.returning.now c.args.ranges.now c.args.event c.requires.next.2 c.as_slice-keys.result.now c.as_slice-keys.ensures.value c.return_above.new.self) in
    subst (λ (n : ℕ). c.args.func < n) (sym (ap (λ (z : RunState). length z.interface.registered) q.rest ∙ r.around.functions)) r.of_interface.known

pub returns-clause-steps : goal.returns-clause-steps
returns-clause-steps c =
    let q = c.in_default-make_event.ensures (coming_so _ c.args.state.now c.args.thread c.args.func _ _ c.args.returning.now c.args.ranges.now c.args.event c.requires.next.2 c.as_slice-keys.result.now c.as_slice-keys.ensures.value c.return_above.new.self) in
    ap (λ (z : RunState). z.steps) q.rest

pub returns-clause-made : goal.returns-clause-made
returns-clause-made c = λ v x n.
    let w = world_of c.args.inputs in
    let s = c.args.state.now in
    let ks = c.as_slice-keys.result.now in
    let memory = c.return_above.new.self in
    let q = c.in_default-make_event.ensures (coming_so w s c.args.thread c.args.func v x c.args.returning.now c.args.ranges.now c.args.event n ks c.as_slice-keys.ensures.value memory) in
    made_so w s c.args.thread c.args.func v x c.args.returning.now c.args.ranges.now c.args.event n ks c.as_slice-keys.ensures.value memory c.make_event.new.state q
    c.used-used.result.now c.commit.result c.next_index-index.result c.is_cached-cached.result c.note.new.interface
    c.used-used.ensures c.commit.ensures
    (c.next_index-index.ensures w n.next.past n.next.around.shown.book ∙ ap (λ (u : ℕ). events_by w u n.next.past) (sym n.next.thread))
    c.is_cached-cached.ensures
    (subst (λ (ks : List Key). IsRoomOrEnd c.args.state.now.book c.args.event (length ks) None) (sym c.as_slice-keys.ensures.value) c.requires.room)
    c.in_default.ensures.made c.note.ensures.counts c.note.ensures.functions

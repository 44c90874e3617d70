use Rattle.std.proofs.Common.{◌+◌, sym, ap, ◌∙◌, subst}
use Rattle.marks.specs.declared.side.Side.TheVariants.{Replay}
use Rattle.marks.specs.Wants.{Frees, Go}
use Rattle.recorder_threads.specs.Answers.{IsNoCall}
use Rattle.recorder_state.specs.Ends.{IsRefused}
use Rattle.recorder_state.specs.declared.state.RunState.{RunState}
use Rattle.recorder_state.specs.Inputs.{world_of}
use Rattle.recorder_events.proofs.Few.{thread_few}
use Rattle.recorder_events.proofs.Steps.{watch_few}
use Rattle.recorder_events.proofs.Marked.{plain_answer, step_told}
use Rattle.recorder_events.proofs.Frees.{coming_so, made_so, refused}
use Rattle.recorder_events.proofs.pool.free.Goals as goal

pub free_above-requires-clause-in_range : goal.free_above-requires-clause-in_range
free_above-requires-clause-in_range c = let h = c.requires in thread_few _ h.reached.fit h.reached.past h.step c.args.thread h.thread

pub free_above-requires-clause-few : goal.free_above-requires-clause-few
free_above-requires-clause-few c = watch_few _ c.args.state.now c.requires.reached

pub returns-in-Err-clause-stopped : goal.returns-in-Err-clause-stopped
returns-in-Err-clause-stopped c = c.stop_above.ensures (world_of c.args.inputs) (record c.args.state.now { memory = c.free_above.new.self })
    (λ z. subst (λ m. IsRefused (world_of c.args.inputs) (record c.args.state.now { memory = m }) c.args.thread Replay c.in-Err.refusal) (sym (c.in-Err.ensures.unchanged z))
    (refused (world_of c.args.inputs) c.args.state.now c.args.thread c.args.addr c.requires c.in-Err.refusal c.in-Err.ensures.refused))

pub make_event-requires-clause-coming : goal.make_event-requires-clause-coming
make_event-requires-clause-coming c =
    let q = c.in_default-free_above.ensures in
    coming_so _ c.args.state.now c.args.thread c.args.addr c.requires c.in_default-free_above.field-0 q.passes q.block c.free_above.new.self

pub next_after-next-requires-clause-plain : goal.next_after-next-requires-clause-plain
next_after-next-requires-clause-plain c =
    let h = c.requires in
    let s = c.args.state.now in
    let q = c.in_default-free_above.ensures in
    let size = c.in_default-free_above.field-0 in
    let recorded = c.in_default-make_event.ensures (coming_so _ s c.args.thread c.args.addr h size q.passes q.block c.free_above.new.self) in
    let made = made_so _ s c.args.thread c.args.addr h size q.passes q.block c.free_above.new.self _ q.made c.in_default.ensures recorded in
    plain_answer _ _ c.args.thread (Frees c.args.addr) Go made IsNoCall (λ z. z)

pub end_step_known-requires-clause-told : goal.end_step_known-requires-clause-told
end_step_known-requires-clause-told c =
    let h = c.requires in
    let s = c.args.state.now in
    let q = c.in_default-free_above.ensures in
    let size = c.in_default-free_above.field-0 in
    let recorded = c.in_default-make_event.ensures (coming_so _ s c.args.thread c.args.addr h size q.passes q.block c.free_above.new.self) in
    let made = made_so _ s c.args.thread c.args.addr h size q.passes q.block c.free_above.new.self _ q.made c.in_default.ensures recorded in
    step_told _ _ c.args.thread (Frees c.args.addr) Go made _ (c.next_after-next.ensures.stand (plain_answer _ _ c.args.thread (Frees c.args.addr) Go made IsNoCall (λ z. z)))

pub returns-clause-steps : goal.returns-clause-steps
returns-clause-steps c =
    let q = c.in_default-free_above.ensures in
    let recorded = c.in_default-make_event.ensures (coming_so _ c.args.state.now c.args.thread c.args.addr c.requires c.in_default-free_above.field-0 q.passes q.block c.free_above.new.self) in
    c.end_step_known.ensures.steps ∙ ap (λ (z : RunState). z.steps + 1) recorded.rest

pub end_step_known-requires-clause-next : goal.end_step_known-requires-clause-next
end_step_known-requires-clause-next c = c.next_after-next.ensures.next

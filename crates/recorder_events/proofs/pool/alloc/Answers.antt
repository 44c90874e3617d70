use Rattle.std.proofs.Common.{◌+◌, ap, ◌∙◌}
use Rattle.marks.specs.Wants.{Allocs, Value}
use Rattle.recorder_threads.specs.Answers.{IsNoCall}
use Rattle.recorder_state.specs.declared.state.RunState.{RunState}
use Rattle.recorder_events.proofs.Few.{thread_few}
use Rattle.recorder_events.proofs.Steps.{watch_few}
use Rattle.recorder_events.proofs.Marked.{plain_answer, step_told}
use Rattle.recorder_events.proofs.Allocs.{ends, coming_so, made_so}
use Rattle.recorder_events.proofs.pool.alloc.Goals as goal

pub returns-in-Some-clause-stopped : goal.returns-in-Some-clause-stopped
returns-in-Some-clause-stopped c = ends _ c.args.state.now c.args.thread c.args.size c.requires c.in-Some.ending c.in-Some.ensures

pub alloc_above-requires-clause-in_range : goal.alloc_above-requires-clause-in_range
alloc_above-requires-clause-in_range c = let h = c.requires in thread_few _ h.reached.fit h.reached.past h.step c.args.thread h.thread

pub alloc_above-requires-clause-few : goal.alloc_above-requires-clause-few
alloc_above-requires-clause-few c = watch_few _ c.args.state.now c.requires.reached

pub make_event-requires-clause-coming : goal.make_event-requires-clause-coming
make_event-requires-clause-coming c =
    let h = c.requires in
    coming_so _ c.args.state.now c.args.thread c.args.size h c.in-Ok.addr (c.in-Ok.ensures.place _ h.reached.past h.reached.memory) c.alloc_above.new.self

pub next_after-next-requires-clause-plain : goal.next_after-next-requires-clause-plain
next_after-next-requires-clause-plain c =
    let h = c.requires in
    let s = c.args.state.now in
    let here = c.in-Ok.ensures.place _ h.reached.past h.reached.memory in
    let recorded = c.in_default-make_event.ensures (coming_so _ s c.args.thread c.args.size h c.in-Ok.addr here c.alloc_above.new.self) in
    let made = made_so _ s c.args.thread c.args.size h c.in-Ok.addr here c.alloc_above.new.self _ c.in-Ok.ensures.made c.in_default.ensures recorded in
    plain_answer _ _ c.args.thread (Allocs c.args.size) (Value c.in-Ok.addr) made IsNoCall (λ z. z)

pub end_step_known-requires-clause-told : goal.end_step_known-requires-clause-told
end_step_known-requires-clause-told c =
    let h = c.requires in
    let s = c.args.state.now in
    let here = c.in-Ok.ensures.place _ h.reached.past h.reached.memory in
    let recorded = c.in_default-make_event.ensures (coming_so _ s c.args.thread c.args.size h c.in-Ok.addr here c.alloc_above.new.self) in
    let made = made_so _ s c.args.thread c.args.size h c.in-Ok.addr here c.alloc_above.new.self _ c.in-Ok.ensures.made c.in_default.ensures recorded in
    step_told _ _ c.args.thread (Allocs c.args.size) (Value c.in-Ok.addr) made _
    (c.next_after-next.ensures.stand (plain_answer _ _ c.args.thread (Allocs c.args.size) (Value c.in-Ok.addr) made IsNoCall (λ z. z)))

pub returns-clause-steps : goal.returns-clause-steps
returns-clause-steps c =
    let h = c.requires in
    let s = c.args.state.now in
    let here = c.in-Ok.ensures.place _ h.reached.past h.reached.memory in
    let recorded = c.in_default-make_event.ensures (coming_so _ s c.args.thread c.args.size h c.in-Ok.addr here c.alloc_above.new.self) in
    c.end_step_known.ensures.steps ∙ ap (λ (z : RunState). z.steps + 1) recorded.rest

pub end_step_known-requires-clause-next : goal.end_step_known-requires-clause-next
end_step_known-requires-clause-next c = c.next_after-next.ensures.next

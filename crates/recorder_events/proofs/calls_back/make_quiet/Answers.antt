use Rattle.std.proofs.Common.{ap}
use Rattle.recorder_state.specs.declared.state.RunState.{RunState}
use Rattle.recorder_events.proofs.Few.{thread_few}
use Rattle.recorder_events.proofs.Steps.{watch_few}
use Rattle.recorder_events.proofs.Quiet.{ends, coming_so, made_so}
use Rattle.recorder_events.proofs.calls_back.make_quiet.Goals as goal

pub returns-in-Some-clause-stopped : goal.returns-in-Some-clause-stopped
returns-in-Some-clause-stopped c = ends _ c.args.state.now c.args.thread _ _ c.requires.next c.in-Some.ending c.in-Some.ensures

pub event_above-requires-clause-in_range : goal.event_above-requires-clause-in_range
event_above-requires-clause-in_range c = let n = c.requires.next in thread_few _ n.reached.fit n.reached.past n.step c.args.thread n.thread

pub event_above-requires-clause-few : goal.event_above-requires-clause-few
event_above-requires-clause-few c = watch_few _ c.args.state.now c.requires.next.reached

pub make_event-requires-clause-coming : goal.make_event-requires-clause-coming
make_event-requires-clause-coming c = coming_so _ c.args.state.now c.args.thread _ _ c.requires.next c.event_above.new.self

pub returns-in-Ok-clause-made : goal.returns-in-Ok-clause-made
returns-in-Ok-clause-made c = λ n. made_so _ c.args.state.now c.args.thread _ _ n c.event_above.new.self _ (c.in_default-event_above.ensures n.kind n.quiet) c.in_default.ensures
    (c.in-Ok.ensures (coming_so _ c.args.state.now c.args.thread _ _ n c.event_above.new.self))

pub returns-in-Ok-clause-steps : goal.returns-in-Ok-clause-steps
returns-in-Ok-clause-steps c =
    let r = c.in-Ok.ensures (coming_so _ c.args.state.now c.args.thread _ _ c.requires.next c.event_above.new.self) in
    ap (λ (z : RunState). z.steps) r.rest

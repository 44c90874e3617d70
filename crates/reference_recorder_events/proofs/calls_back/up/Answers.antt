use Rattle.std.proofs.lemmas.Result.{IfOk-weaker}
use Rattle.recorder_state.specs.Inputs.{world_of}
use Rattle.reference_recorder_events.proofs.Numbered.{event_made_as}
use Rattle.reference_recorder_events.proofs.Ups.{can_be_up_with}
use Rattle.reference_recorder_events.proofs.calls_back.up.Goals as goal

pub returns : goal.returns
returns c = λ u.
    let w = world_of c.args.inputs in
    let marks = c.args.marks.now in
    let t = c.args.thread in
    IfOk-weaker c.next_event.result _ _
    (λ m n. event_made_as w marks u.next.at.past u.next.at.step t u.next.at.of_thread _ _ m n
    (can_be_up_with w marks t c.args.func c.args.args.now u c.in_ok-args.args c.in_ok-args.ensures) tt)
    c.next_event.ensures

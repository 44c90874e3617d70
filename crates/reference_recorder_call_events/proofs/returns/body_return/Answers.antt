use Rattle.std.proofs.Common.{refl}
use Rattle.std.proofs.lemmas.Result.{IfOk-weaker}
use Rattle.recorder_state.specs.Inputs.{world_of}
use Rattle.reference_recorder_call_events.proofs.Bodies.{body_made, body_region}
use Rattle.reference_recorder_call_events.proofs.returns.body_return.Goals as goal

pub return_mark-requires-clause-region : goal.return_mark-requires-clause-region
return_mark-requires-clause-region c = body_region (world_of c.args.inputs) c.args.marks.now c.args.thread c.args.func c.args.args.now c.args.value c.requires

pub returns : goal.returns
returns c = λ h.
    IfOk-weaker c.return_mark.result _ _
    (λ mark of. body_made _ c.args.thread c.args.func c.args.args.now c.args.value h refl (c.bytes_are_low.ensures (world_of c.args.inputs) c.args.marks.now h.at.past) mark of)
    c.return_mark.ensures

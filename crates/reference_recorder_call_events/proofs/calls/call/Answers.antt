use Rattle.std.proofs.Common.{refl}
use Rattle.std.proofs.lemmas.Result.{IfOk-weaker}
use Rattle.recorder_state.specs.Inputs.{world_of}
use Rattle.reference_recorder_call_events.proofs.Calling.{call_made}
use Rattle.reference_recorder_call_events.proofs.calls.call.Goals as goal

pub returns : goal.returns
returns c = λ h.
    IfOk-weaker c.call_mark.result _ _
    (λ mark of. call_made _ c.args.thread c.args.func c.args.args.now h refl (c.bytes_are_low.ensures (world_of c.args.inputs) c.args.marks.now h.next.at.past) mark of)
    c.call_mark.ensures

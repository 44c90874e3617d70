use Rattle.std.proofs.Common.{Some, sym, subst}
use Rattle.recorder_state.specs.Inputs.{world_of}
use Rattle.reference_recorder.specs.Steps.{IsEndAs}
use Rattle.reference_recorder.proofs.Going.{fault_ends}
use Rattle.reference_recorder.proofs.ends.faulted.Goals as goal

pub returns : goal.returns
returns c = λ f.
    let w = world_of c.args.inputs in
    subst (IsEndAs w f.at.past.run (Some c.in_ok-mark.mark)) (sym c.fault_end.ensures)
    (fault_ends w c.args.marks.now c.args.thread c.args.side c.args.args.now c.args.want c.args.kind f c.in_ok-mark.mark (c.in_ok-mark.ensures f))

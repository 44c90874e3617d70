use Rattle.std.proofs.Common.{sym, ◌∙◌, arith}
use Rattle.recorder_state.specs.Inputs.{world_of}
use Rattle.recorder_state.proofs.Alone.{at_known}
use Rattle.recorder_state.proofs.state.RunState.known_step.Goals as goal

pub returns-in-None : goal.returns-in-None
returns-in-None c =
    let one = c.if-count-ne1.false in
    let count = c.count.ensures in
    at_known (world_of c.args.inputs) c.args.self.now c.requires (omega (arith, one, count)) c.in_ok-known.known c.in-Wants.side c.in-Wants.want c.in_ok-known.was c.in-Wants.is (sym c.asked.ensures ∙ c.in-None.is) c.if-self-inputs.false

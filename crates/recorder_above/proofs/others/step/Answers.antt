use Rattle.std.proofs.Common.{subst}
use Rattle.recorder_above.proofs.Made.{EndsBy, step_breaks}
use Rattle.recorder_above.proofs.others.step.Goals as goal

pub returns : goal.returns
returns c = λ w s indirect at. step_breaks w s c.args.thread indirect c.args.func at c.of.result (subst (λ r. EndsBy c.args.thread r c.of.result) c.mode_breach.ensures c.of.ensures)

use Rattle.std.proofs.Common.{arith}
use Rattle.recorder_state.proofs.begin.check.Goals as goal

pub returns : goal.returns
returns c = let n = c.instrs-instrs.ensures.valid.numbered in omega (arith, n)

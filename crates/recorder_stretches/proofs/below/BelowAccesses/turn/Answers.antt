use Rattle.std.proofs.Common.{refl, arith}
use Rattle.recorder_memory.proofs.Quiet.{turns}
use Rattle.recorder_stretches.proofs.below.BelowAccesses.turn.Goals as goal

pub returns-clause-turned : goal.returns-clause-turned
returns-clause-turned c = λ made. (
  refl,
  record {
    less_is = let some = c.if-self-eq0.false in omega (arith, some);
    made = turns c.args.self.now.memory.now 0;
  },
)

use Rattle.std.proofs.Common.{refl, arith}
use Rattle.recorder_memory.proofs.AccessesAbove.{turns_above}
use Rattle.recorder_stretches.proofs.above.AboveAccesses.turn.Goals as goal

pub returns-clause-turned : goal.returns-clause-turned
returns-clause-turned c = λ made. (
  refl,
  record {
    less_is = let some = c.if-self-eq0.false in omega (arith, some);
    made = turns_above c.args.self.now.memory.now 0 (omega arith);
  },
)

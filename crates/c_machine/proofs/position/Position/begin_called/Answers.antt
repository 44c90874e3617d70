use Rattle.std.proofs.Common.{arith}
use Rattle.c_machine.proofs.position.Position.begin_called.Goals as goal

pub enter-requires-clause-values : goal.enter-requires-clause-values
enter-requires-clause-values c = omega (arith, c.wait.ensures.few, c.wait.ensures.values, c.requires.values)

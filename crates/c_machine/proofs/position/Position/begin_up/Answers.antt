use Rattle.std.proofs.Common.{arith}
use Rattle.c_machine_stack.specs.Stacks.{held}
use Rattle.c_machine.proofs.Arguments.{uncovered_few}
use Rattle.c_machine.proofs.position.Position.begin_up.Goals as goal

pub enter-requires-clause-values : goal.enter-requires-clause-values
enter-requires-clause-values c = omega (arith, uncovered_few c.args.call.indirect c.args.call.args (held c.args.self.now.values) (held c.uncover.new.self.values) c.uncover.ensures.values, c.uncover.ensures.room, c.requires.values)

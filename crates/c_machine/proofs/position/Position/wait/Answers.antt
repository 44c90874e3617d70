use Rattle.c_machine_stack.specs.Stacks.{held}
use Rattle.c_machine.proofs.Arguments.{uncovered_few}
use Rattle.c_machine.proofs.position.Position.wait.Goals as goal

pub returns-else-crosses-clause-few : goal.returns-else-crosses-clause-few
returns-else-crosses-clause-few c = uncovered_few c.args.call.indirect c.args.call.args (held c.args.self.now.values) (held c.uncover.new.self.values) c.uncover.ensures.values

use Rattle.c_machine_stack.specs.Stacks.{held}
use Rattle.c_machine.proofs.Runs.{uncovered_below}
use Rattle.c_machine.proofs.position.Position.uncover_below.Goals as goal

pub returns-then-call-clause-below : goal.returns-then-call-clause-below
returns-then-call-clause-below c = uncovered_below c.args.call.indirect c.args.call.args (held c.args.self.now.values) (held c.drop_below.new.self) c.if-call.true c.requires.enough c.drop_below.ensures.dropped

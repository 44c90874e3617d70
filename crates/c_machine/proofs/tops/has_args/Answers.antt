use Rattle.std.proofs.Common.{arith, []}
use Rattle.c_machine_stack.specs.Stacks.{held}
use Rattle.c_machine.proofs.Arguments.{took, few}
use Rattle.c_machine.proofs.tops.has_args.Goals as goal

pub returns-then-n-len-clause-yes : goal.returns-then-n-len-clause-yes
returns-then-n-len-clause-yes c = λ _. took c.args.n (held c.args.values.now) (omega (arith, c.len.ensures.len, c.if-n-len.true))

pub returns-else-n-len-clause-no : goal.returns-else-n-len-clause-no
returns-else-n-len-clause-no c = λ _. few c.args.n [] (held c.args.values.now) (omega (arith, c.len.ensures.len, c.if-n-len.false))

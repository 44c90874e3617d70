use Rattle.std.proofs.Common.{subst, sym}
use Rattle.c_types_statements.specs.Typed.{StatementStands}
use Rattle.c_types_statements.proofs.OfMade.{if_else_stands}
use Rattle.c_types_statements.proofs.made.choice_of_two.Goals as goal

pub returns : goal.returns
returns c = λ t x a b h k l. if_else_stands t c.args.condition c.in_ok-then.then c.in_ok-otherwise.otherwise x a b h (subst (StatementStands t a) (sym c.in_ok-then.ensures.ok) k) (subst (StatementStands t b) (sym c.in_ok-otherwise.ensures.ok) l)

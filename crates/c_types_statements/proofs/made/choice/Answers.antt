use Rattle.std.proofs.Common.{subst, sym}
use Rattle.c_types_statements.specs.Typed.{StatementStands}
use Rattle.c_types_statements.proofs.OfMade.{if_stands}
use Rattle.c_types_statements.proofs.made.choice.Goals as goal

pub returns : goal.returns
returns c = λ t x a h k. if_stands t c.args.condition c.in_ok-then.then x a h (subst (StatementStands t a) (sym c.in_ok-then.ensures.ok) k)

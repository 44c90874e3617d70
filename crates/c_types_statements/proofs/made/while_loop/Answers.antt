use Rattle.std.proofs.Common.{subst, sym}
use Rattle.c_types_statements.specs.Typed.{StatementStands}
use Rattle.c_types_statements.proofs.OfMade.{while_stands}
use Rattle.c_types_statements.proofs.made.while_loop.Goals as goal

pub returns : goal.returns
returns c = λ t x a h k. while_stands t c.args.from c.args.condition c.in_ok-body.body x a h (subst (StatementStands t a) (sym c.in_ok-body.ensures.ok) k)

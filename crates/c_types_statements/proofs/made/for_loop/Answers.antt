use Rattle.std.proofs.Common.{subst, sym}
use Rattle.c_types_statements.specs.Typed.{StatementStands}
use Rattle.c_types_statements.proofs.OfMade.{for_stands}
use Rattle.c_types_statements.proofs.made.for_loop.Goals as goal

pub returns : goal.returns
returns c = λ t xs x y a h p q k. for_stands t c.args.from c.args.first c.args.condition c.args.last c.in_ok-body.body xs x y a h p q (subst (StatementStands t a) (sym c.in_ok-body.ensures.ok) k)

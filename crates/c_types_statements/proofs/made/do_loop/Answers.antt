use Rattle.std.proofs.Common.{subst, sym}
use Rattle.c_types_statements.specs.Typed.{StatementStands}
use Rattle.c_types_statements.proofs.OfMade.{do_stands}
use Rattle.c_types_statements.proofs.made.do_loop.Goals as goal

pub returns : goal.returns
returns c = λ t x a h k. do_stands t c.args.from c.in_ok-body.body c.args.condition a x (subst (StatementStands t a) (sym c.in_ok-body.ensures.ok) k) h

use Rattle.c_types_expressions.proofs.Constructs.{expr_inside}
use Rattle.c_types_expressions.proofs.Starts.{start_is}
use Rattle.c_types_expressions.proofs.offsets.start.Goals as goal

pub expr-requires : goal.expr-requires
expr-requires c = record { inside = expr_inside c.args.tree.now c.args.id c.requires }

pub returns : goal.returns
returns c x h = start_is c.args.tree.now c.args.id x c.expr.result.now h c.expr.ensures.node

use Rattle.test_trees.proofs.Fits.{expr_inside, expr_fits}
use Rattle.test_trees.proofs.node.expr_kind.Goals as goal

pub expr-requires : goal.expr-requires
expr-requires c = record { inside = expr_inside c.args.tree.now c.args.id c.requires }

pub returns : goal.returns
returns c = expr_fits c.args.tree.now c.args.id c.expr.result.now c.requires c.expr.ensures.node

use Rattle.test_trees.proofs.Fits.{stmt_inside, stmt_fits}
use Rattle.test_trees.proofs.node.stmt_kind.Goals as goal

pub stmt-requires : goal.stmt-requires
stmt-requires c = record { inside = stmt_inside c.args.tree.now c.args.id c.requires }

pub returns : goal.returns
returns c = stmt_fits c.args.tree.now c.args.id c.stmt.result.now c.requires c.stmt.ensures.node

use Rattle.test_trees.proofs.Fits.{decl_inside, decl_rest_fits}
use Rattle.test_trees.proofs.node.decl_rest.Goals as goal

pub decl-requires : goal.decl-requires
decl-requires c = record { inside = decl_inside c.args.tree.now c.args.id c.requires }

pub returns : goal.returns
returns c = decl_rest_fits c.args.tree.now c.args.id c.decl.result.now c.requires c.decl.ensures.node

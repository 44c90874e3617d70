use Rattle.test_trees.proofs.Fits.{decl_inside, decl_parts_fit, decl_annots_fit}
use Rattle.test_trees.proofs.node.decl_node.Goals as goal

pub decl-requires : goal.decl-requires
decl-requires c = record { inside = decl_inside c.args.tree.now c.args.id c.requires }

pub returns-clause-parts : goal.returns-clause-parts
returns-clause-parts c = decl_parts_fit c.args.tree.now c.args.id c.decl.result.now c.requires c.decl.ensures.node

pub returns-clause-annots : goal.returns-clause-annots
returns-clause-annots c = decl_annots_fit c.args.tree.now c.args.id c.decl.result.now c.requires c.decl.ensures.node

use Rattle.annot_reader_words.proofs.Showing.{decl_inside}
use Rattle.annot_reader_words.proofs.declaration.decl_node.Goals as goal

pub decl-requires : goal.decl-requires
decl-requires c = record { inside = decl_inside c.args.tree.now c.args.id c.requires }

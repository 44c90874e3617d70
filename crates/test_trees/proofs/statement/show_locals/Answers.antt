use Rattle.std.proofs.Common.{arith}
use Rattle.test_trees.proofs.Members.{decl_among}
use Rattle.test_trees.proofs.statement.show_locals.Goals as goal

pub show_data-requires : goal.show_data-requires
show_data-requires c = decl_among c.args.tree.now c.args.ids.now c.loop-id.id-index (record { 0 = 0 }) (omega arith) c.requires

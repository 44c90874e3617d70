use Rattle.c_types_table.specs.Tables.{type_at}
use Rattle.cut_graph_mentions.proofs.SameTypes.{same_as_test}
use Rattle.cut_graph_mentions.proofs.paths.are_same.Goals as goal

pub returns : goal.returns
returns c = same_as_test c.is_same.result (type_at c.args.types.now c.args.a) (type_at c.args.types.now c.args.b) c.is_same.ensures

use Rattle.std.proofs.Common.{List, subst}
use Rattle.c_types_nodes.specs.declared.ids.NodeId.{NodeId}
use Rattle.c_types_nodes.specs.Lists.{nodes_at}
use Rattle.cut_graph_rules.specs.Mentions.{unevaluated_mentions}
use Rattle.cut_graph_mentions.specs.Growing.{IsAdded}
use Rattle.cut_graph_mentions.proofs.bodies.unevaluated.Goals as goal

pub returns : goal.returns
returns c =
    subst (λ (ids : List NodeId). IsAdded c.args.found.now (unevaluated_mentions (nodes_at c.args.table.now ids)) c.nodes.new.found) c.as_slice.ensures c.nodes.ensures

use Rattle.std.proofs.Common.{List, Option, drop}
use Rattle.c_types_nodes.specs.Lists.{nodes_at}
use Rattle.cut_graph_rules.specs.declared.mention.Mention.{Mention}
use Rattle.cut_graph_rules.specs.Mentions.{unevaluated_mentions}
use Rattle.cut_graph_mentions.specs.Growing.{IsAdded}
use Rattle.cut_graph_mentions.proofs.bodies.nodes.Given as goal

-- what is left makes the whole
abbrev pub invariant-loop-id : goal.invariant-loop-id
invariant-loop-id l =
    (q : Option (List Mention)) →
    IsAdded l.found (unevaluated_mentions (nodes_at l.table (drop l.id-index l.ids))) q →
    IsAdded l.initial.found (unevaluated_mentions (nodes_at l.table l.ids)) q

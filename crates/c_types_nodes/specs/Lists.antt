-- What several numbers of nodes stand for.
use Rattle.std.specs.Prelude.{List, map}
use Rattle.std.specs.List.{All}
use Rattle.c_types_rules.specs.TypedTree.{Typed}
use Rattle.c_types_nodes.specs.declared.ids.NodeId.{NodeId}
use Rattle.c_types_nodes.specs.Tables.{Table, IsNode, node_at}

-- what the numbers stand for, in order
abbrev pub nodes_at : Table → List NodeId → List Typed
nodes_at t ids = map (node_at t) ids

-- all of them are numbers of nodes of the table
abbrev pub AreNodes : Table → List NodeId → Type 0
AreNodes t ids = All (IsNode t) ids

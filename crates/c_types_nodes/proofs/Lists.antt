-- Several nodes while their table grows.
use Rattle.std.proofs.Common.{◌≡◌, List, [], ◌∷◌, Some, map, refl, sym, ap, ◌∙◌}
use Rattle.std.specs.List.{All}
use Rattle.std.proofs.lemmas.List.Elements.{All-head, All-tail, All-weaker}
use Rattle.c_types_nodes.specs.declared.ids.NodeId.{NodeId}
use Rattle.c_types_nodes.specs.Parts.{typed_in}
use Rattle.c_types_nodes.specs.Tables.{Table, Keeps, IsNode, node_at}
use Rattle.c_types_nodes.specs.Lists.{AreNodes, nodes_at}

module _ (t u : Table) (k : Keeps t u) where
  pub node_kept : (id : NodeId) → IsNode t id → node_at u id ≡ node_at t id
  node_kept id h = ap typed_in (k.nodes id (node_at t id) h)

  pub is_node_kept : (id : NodeId) → IsNode t id → IsNode u id
  is_node_kept id h = k.nodes id (node_at t id) h ∙ ap Some (sym (node_kept id h))

  pub nodes_kept : (ids : List NodeId) → AreNodes t ids → nodes_at u ids ≡ nodes_at t ids
  nodes_kept [] h = refl
  nodes_kept (id ∷ ids) h =
      ap (λ x. x ∷ nodes_at u ids) (node_kept id (All-head (IsNode t) id ids h))
      ∙ ap (λ xs. node_at t id ∷ xs) (nodes_kept ids (All-tail (IsNode t) id ids h))

  pub are_nodes_kept : (ids : List NodeId) → AreNodes t ids → AreNodes u ids
  are_nodes_kept ids h = All-weaker (IsNode t) (IsNode u) is_node_kept ids h

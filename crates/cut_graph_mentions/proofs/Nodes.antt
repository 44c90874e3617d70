-- What a node mentions, by what stands at its number.
use Rattle.std.proofs.Common.{◌≡◌, ℕ, Bool, List, Option, Some, sym, subst}
use Rattle.c_types_rules.specs.TypedTree.{Typed}
use Rattle.c_types_nodes.specs.declared.ids.NodeId.{NodeId}
use Rattle.c_types_nodes.specs.Parts.{typed_in}
use Rattle.c_types_nodes.specs.Tables.{Table, IsFunctionAt, IsObjectAt, IsValueAt, callee_at, node_at, object_at, typed_at, value_at}
use Rattle.cut_graph_rules.specs.declared.mention.Mention.{Mention}
use Rattle.cut_graph_rules.specs.Mentions.{callee_mentions, object_mentions, typed_mentions, value_mentions, written_at}
use Rattle.cut_graph_mentions.specs.Growing.{IsAdded}

pub at_node : (t : Table) (id : NodeId) (x : Typed) (here counts : Bool) {old new : Option (List Mention)} → typed_at t id ≡ Some x →
    IsAdded old (typed_mentions here counts x) new → IsAdded old (typed_mentions here counts (node_at t id)) new
at_node t id x here counts {old} {new} is h = subst (λ (y : Option Typed). IsAdded old (typed_mentions here counts (typed_in y)) new) (sym is) h

pub as_value : (t : Table) (id : NodeId) (here counts : Bool) {old new : Option (List Mention)} → IsValueAt t id →
    IsAdded old (typed_mentions here counts (node_at t id)) new → IsAdded old (value_mentions here counts (value_at t id)) new
as_value t id here counts {old} {new} is h = subst (λ (y : Option Typed). IsAdded old (typed_mentions here counts (typed_in y)) new) is h

pub as_object : (t : Table) (id : NodeId) (counts : Bool) {old new : Option (List Mention)} → IsObjectAt t id →
    IsAdded old (typed_mentions counts counts (node_at t id)) new → IsAdded old (object_mentions counts (object_at t id)) new
as_object t id counts {old} {new} is h = subst (λ (y : Option Typed). IsAdded old (typed_mentions counts counts (typed_in y)) new) is h

pub as_callee : (t : Table) (id : NodeId) (counts : Bool) {old new : Option (List Mention)} → IsFunctionAt t id →
    IsAdded old (typed_mentions counts counts (node_at t id)) new → IsAdded old (callee_mentions counts (callee_at t id)) new
as_callee t id counts {old} {new} is h = subst (λ (y : Option Typed). IsAdded old (typed_mentions counts counts (typed_in y)) new) is h

pub placed : (p q : Option ℕ) {old new : Option (List Mention)} → p ≡ q → IsAdded old (written_at p) new → IsAdded old (written_at q) new
placed p q {old} {new} e h = subst (λ (x : Option ℕ). IsAdded old (written_at x) new) e h

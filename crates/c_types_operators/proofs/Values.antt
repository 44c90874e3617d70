-- Values that stand in a table, and stay there.
use Rattle.std.proofs.Common.{◌≡◌, ℕ, Some, sym, ap, ◌∙◌, subst}
use Rattle.r2_num.specs.declared.kinds.IntKind.{IntKind}
use Rattle.r2_num.specs.declared.operations.Op.{Op}
use Rattle.c_types_model.specs.Types.{Integer}
use Rattle.c_types_table.specs.declared.ids.TypeId.{TypeId}
use Rattle.c_types_table.specs.Tables.{type_at}
use Rattle.c_types_rules.specs.Operators.{to_kind}
use Rattle.c_types_rules.specs.TypedTree.{Value, AValue, Arithmetic, PointerSum, PointerComparison, value_type, typed_type}
use Rattle.c_types_nodes.specs.declared.ids.NodeId.{NodeId}
use Rattle.c_types_nodes.specs.declared.node.Node.TheVariants as nodes
use Rattle.c_types_nodes.specs.declared.node.Sum.{Sum}
use Rattle.c_types_nodes.specs.Parts.{IsRightType, sum_in, value_in, typed_in}
use Rattle.c_types_nodes.specs.Tables.{Table, typed_of, typed_at, value_at, node_at, IsValueAt, IsNode, Keeps, Names, CanHold}
use Rattle.c_types_nodes.proofs.Kept.{Extends, value_kept, is_value_kept}

pub extends : (t u : Table) → Keeps t u → Extends (typed_of t) (typed_of u)
extends t u k = record { has = k.nodes }

pub value_is : (t : Table) (id : NodeId) (v : Value) → typed_at t id ≡ Some (AValue v) → value_at t id ≡ v
value_is t id v h = ap value_in h

pub is_value : (t : Table) (id : NodeId) (v : Value) → typed_at t id ≡ Some (AValue v) → IsValueAt t id
is_value t id v h = h ∙ ap (λ w. Some (AValue w)) (sym (value_is t id v h))

pub value_stays : (t u : Table) (id : NodeId) → Keeps t u → IsValueAt t id → value_at u id ≡ value_at t id
value_stays t u id k h = value_kept (typed_of t) (typed_of u) id (extends t u k) h

pub stays_value : (t u : Table) (id : NodeId) → Keeps t u → IsValueAt t id → IsValueAt u id
stays_value t u id k h = is_value_kept (typed_of t) (typed_of u) id (extends t u k) h

pub is_node : (t : Table) (id : NodeId) → IsValueAt t id → IsNode t id
is_node t id h = h ∙ ap Some (sym (ap typed_in h))

pub value_type_is : (t : Table) (id : NodeId) (ty : TypeId) → IsValueAt t id → Names t.types ty (typed_type (node_at t id)) → type_at t.types ty ≡ value_type (value_at t id)
value_type_is t id ty h n = n.is ∙ ap (λ o. typed_type (typed_in o)) h

-- two converted operands
pub arithmetic_held : (t u : Table) (op : Op) (j k : IntKind) (l r : NodeId) (a b : Value) → Keeps t u → typed_at t l ≡ Some (AValue (to_kind j a)) → typed_at u r ≡ Some (AValue (to_kind k b)) → IsRightType op j (Integer k)
    → CanHold u (nodes.Arithmetic op j l r)
arithmetic_held t u op j k l r a b keeps hl hr s =
    let left : typed_at u l ≡ Some (AValue (to_kind j a)) = keeps.nodes l (AValue (to_kind j a)) hl in
    let right : Value → Type 0 = λ v. IsRightType op j (value_type v) in
    (is_value u l (to_kind j a) left, is_value u r (to_kind k b) hr, ap value_type (value_is u l (to_kind j a) left), subst right (sym (value_is u r (to_kind k b) hr)) s)

pub arithmetic_is : (s t u : Table) (op : Op) (j k : IntKind) (l r right : NodeId) (a : Value) → Keeps s t → Keeps t u → IsValueAt s right → typed_at t l ≡ Some (AValue (to_kind j a)) → typed_at u r ≡ Some (AValue (to_kind k (value_at t right)))
    → AValue (Arithmetic op j (value_at u l) (value_at u r)) ≡ AValue (Arithmetic op j (to_kind j a) (to_kind k (value_at s right)))
arithmetic_is s t u op j k l r right a first second h hl hr =
    let el : value_at u l ≡ to_kind j a = value_is u l (to_kind j a) (second.nodes l (AValue (to_kind j a)) hl) in
    let er : value_at u r ≡ to_kind k (value_at s right) = value_is u r (to_kind k (value_at t right)) hr ∙ ap (to_kind k) (value_stays s t right first h) in
    ap (λ v. AValue (Arithmetic op j v (value_at u r))) el ∙ ap (λ v. AValue (Arithmetic op j (to_kind j a) v)) er

pub pointer_sum_held : (t u : Table) (s : Sum) (p i : NodeId) (size : ℕ) (v : Value) → Keeps t u → IsValueAt t p → typed_at u i ≡ Some (AValue v) → CanHold u (nodes.PointerSum s p i size)
pointer_sum_held t u s p i size v k h e = (stays_value t u p k h, is_value u i v e)

pub pointer_sum_is : (t u : Table) (s : Sum) (p i : NodeId) (size : ℕ) (v : Value) → Keeps t u → IsValueAt t p → typed_at u i ≡ Some (AValue v)
    → AValue (PointerSum (sum_in s) (value_at u p) (value_at u i) size) ≡ AValue (PointerSum (sum_in s) (value_at t p) v size)
pointer_sum_is t u s p i size v k h e =
    ap (λ w. AValue (PointerSum (sum_in s) w (value_at u i) size)) (value_stays t u p k h) ∙ ap (λ w. AValue (PointerSum (sum_in s) (value_at t p) w size)) (value_is u i v e)

-- a comparison of a value and one that is converted
pub comparison_right_is : (t u : Table) (op : Op) (a b : NodeId) (v : Value) → Keeps t u → IsValueAt t a → typed_at u b ≡ Some (AValue v) → AValue (PointerComparison op (value_at u a) (value_at u b)) ≡ AValue (PointerComparison op (value_at t a) v)
comparison_right_is t u op a b v k h e = ap (λ w. AValue (PointerComparison op w (value_at u b))) (value_stays t u a k h) ∙ ap (λ w. AValue (PointerComparison op (value_at t a) w)) (value_is u b v e)

pub comparison_left_is : (t u : Table) (op : Op) (a b : NodeId) (v : Value) → Keeps t u → IsValueAt t b → typed_at u a ≡ Some (AValue v) → AValue (PointerComparison op (value_at u a) (value_at u b)) ≡ AValue (PointerComparison op v (value_at t b))
comparison_left_is t u op a b v k h e = ap (λ w. AValue (PointerComparison op (value_at u a) w)) (value_stays t u b k h) ∙ ap (λ w. AValue (PointerComparison op w (value_at t b))) (value_is u a v e)

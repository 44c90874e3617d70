-- Assignments with an operator.
use Rattle.std.proofs.Common.{◌≡◌, ℕ, Some, sym, ap, ◌∙◌}
use Rattle.r2_num.specs.declared.kinds.IntKind.{IntKind}
use Rattle.r2_num.specs.declared.operations.Op.{Op}
use Rattle.r2_num.specs.declared.operations.Op.TheVariants.{Shl, Shr}
use Rattle.r2_num.specs.Conversions.{common_of, promoted}
use Rattle.c_types_rules.specs.Checked.{Fine, need, ◌>>=◌}
use Rattle.c_types_rules.specs.TypeTests.{kind_in}
use Rattle.c_types_rules.specs.Operators.{changed, to_kind}
use Rattle.c_types_rules.specs.TypedTree.{Object, Value, AValue, Changed, value_type}
use Rattle.c_types_nodes.specs.declared.ids.NodeId.{NodeId}
use Rattle.c_types_nodes.specs.Tables.{Table, typed_of, typed_at, object_at, value_at, IsObjectAt, Keeps}
use Rattle.c_types_nodes.proofs.Kept.{object_kept}
use Rattle.c_types_operators.specs.Assignments.{left_kind, right_kind}
use Rattle.c_types_operators.proofs.Values.{extends, value_is}

made : (from : ℕ) (op : Op) (o : Object) (j k : IntKind) (b : Value) → kind_in (value_type b) ≡ Some k → changed from op o j b ≡ Fine (Changed o op (left_kind op j k) (to_kind (right_kind op j k) b))
made from Shl o j k b h = ap (λ p. need from 5 p >>= (λ i. Fine (Changed o Shl (promoted j) (to_kind (promoted i) b)))) h
made from Shr o j k b h = ap (λ p. need from 5 p >>= (λ i. Fine (Changed o Shr (promoted j) (to_kind (promoted i) b)))) h
made from op o j k b h = ap (λ p. need from 5 p >>= (λ i. Fine (Changed o op (common_of j i) (to_kind (common_of j i) b)))) h

-- what the definition makes of an integer object and another integer
pub changed_made : (from : ℕ) (op : Op) (o : Object) (j k left right : IntKind) (b : Value) → kind_in (value_type b) ≡ Some k → left ≡ left_kind op j k → right ≡ right_kind op j k → changed from op o j b ≡ Fine (Changed o op left (to_kind right b))
changed_made from op o j k left right b h l r =
    made from op o j k b h ∙ (ap (λ i. Fine (Changed o op i (to_kind (right_kind op j k) b))) (sym l) ∙ ap (λ i. Fine (Changed o op left (to_kind i b))) (sym r))

-- the object stays where it stood, and the value stands where it was put
pub changed_is : (t u : Table) (op : Op) (k : IntKind) (o i : NodeId) (v : Value) → Keeps t u → IsObjectAt t o → typed_at u i ≡ Some (AValue v) → AValue (Changed (object_at u o) op k (value_at u i)) ≡ AValue (Changed (object_at t o) op k v)
changed_is t u op k o i v keeps h e =
    let same : object_at u o ≡ object_at t o = object_kept (typed_of t) (typed_of u) o (extends t u keeps) h in
    ap (λ x. AValue (Changed x op k (value_at u i))) same ∙ ap (λ w. AValue (Changed (object_at t o) op k w)) (value_is u i v e)

-- The arms of `? :`.
use Rattle.std.proofs.Common.{◌≡◌, ℕ, true, not, Option, Some, sym, ap, ◌∙◌}
use Rattle.r2_num.specs.declared.kinds.IntKind.{IntKind}
use Rattle.r2_num.specs.Conversions.{common_of}
use Rattle.c_types_model.specs.Types.{CType}
use Rattle.c_types_rules.proofs.SameTypes.{types_compared}
use Rattle.c_types_rules.specs.Checked.{Checked, Fine, need, ◌>>=◌}
use Rattle.c_types_rules.specs.TypeTests.{is_integer, kind_in, same_type}
use Rattle.c_types_rules.specs.Operators.{is_settled, to_kind}
use Rattle.c_types_rules.specs.TypedTree.{Value, AValue, Choice, value_type}
use Rattle.c_types_nodes.specs.declared.ids.NodeId.{NodeId}
use Rattle.c_types_nodes.specs.Tables.{Table, typed_at, value_at, IsValueAt, Keeps}
use Rattle.c_types_nodes.proofs.Growing.{through}
use Rattle.c_types_operators.specs.Arms.{integers_chosen}
use Rattle.c_types_operators.proofs.Rules.{first_true}
use Rattle.c_types_operators.proofs.Values.{value_is, value_stays}

kinds : (from : ℕ) → (IntKind → IntKind → Checked Value) → Option IntKind → Option IntKind → Checked Value
kinds from f o p = need from 20 o >>= (λ j. need from 20 p >>= (λ k. f j k))

-- two integers
pub integers_both : (from : ℕ) (c a b : Value) (j k common : IntKind) → kind_in (value_type a) ≡ Some j → kind_in (value_type b) ≡ Some k → common ≡ common_of j k → integers_chosen from c a b ≡ Fine (Choice c (to_kind common a) (to_kind common b))
unfolding kinds
integers_both from c a b j k common h i e =
    ap (λ o. kinds from (λ j k. Fine (Choice c (to_kind (common_of j k) a) (to_kind (common_of j k) b))) o (kind_in (value_type b))) h
    ∙ (ap (λ o. kinds from (λ j k. Fine (Choice c (to_kind (common_of j k) a) (to_kind (common_of j k) b))) (Some j) o) i
    ∙ ap (λ l. Fine (Choice c (to_kind l a) (to_kind l b))) (sym e))

-- two converted arms
pub arms_are : (s t u : Table) (k : IntKind) (condition : NodeId) (a : Value) (b first second : NodeId) → Keeps s t → Keeps t u → IsValueAt s condition → IsValueAt s b → typed_at t first ≡ Some (AValue (to_kind k a)) → typed_at u second ≡ Some (AValue (to_kind k (value_at t b)))
    → AValue (Choice (value_at u condition) (value_at u first) (value_at u second)) ≡ AValue (Choice (value_at s condition) (to_kind k a) (to_kind k (value_at s b)))
arms_are s t u k condition a b first second old new hc hb hf hs =
    let c : value_at u condition ≡ value_at s condition = value_stays s u condition (through s t u old new) hc in
    let f : value_at u first ≡ to_kind k a = value_is u first (to_kind k a) (new.nodes first (AValue (to_kind k a)) hf) in
    let l : value_at u second ≡ to_kind k (value_at s b) = value_is u second (to_kind k (value_at t b)) hs ∙ ap (to_kind k) (value_stays s t b old hb) in
    ap (λ v. AValue (Choice v (value_at u first) (value_at u second))) c
    ∙ (ap (λ v. AValue (Choice (value_at s condition) v (value_at u second))) f
    ∙ ap (λ v. AValue (Choice (value_at s condition) (to_kind k a) v)) l)

-- arms that stay as they are have one type
pub settled_types : (t u : CType) → is_settled t u ≡ true → t ≡ u
settled_types t u h = (types_compared t u).0 (first_true (same_type t u) (not (is_integer t)) h)

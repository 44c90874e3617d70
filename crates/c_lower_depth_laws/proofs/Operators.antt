-- How deep what operators make is, by the depths of their operands.
use Rattle.std.proofs.Common.{◌≡◌, ℕ, ◌+◌, max, Bool, true, false, cond, ◌&&◌, List, Option, Some, None, refl, ap}
use Rattle.r2_num.specs.declared.kinds.IntKind.{IntKind}
use Rattle.r2_num.specs.declared.kinds.IntKind.TheVariants.{I64}
use Rattle.r2_num.specs.declared.operations.Op.{Op}
use Rattle.r2_num.specs.declared.operations.Op.TheVariants.{Add, Sub, Mul, Div, Rem, Shl, Shr, And, Or, Xor, Eq, Ne, Lt, Le, Gt, Ge}
use Rattle.c_lexer.specs.declared.token.Sign.{Sign}
use Rattle.c_lexer.specs.declared.token.Sign.TheVariants as signs
use Rattle.c_types_model.specs.Types.{CType, Void, Integer, PointerTo}
use Rattle.c_types_model.specs.declared.extent.Extent.{Extent}
use Rattle.c_types_rules.specs.Checked.{Fine, keep, ◌>>◌}
use Rattle.c_types_rules.specs.TypeTests.{is_complete, is_integer, is_scalar, same_type, kind_in}
use Rattle.c_types_rules.specs.Constants.{is_null}
use Rattle.c_types_rules.specs.TypedTree.{Object, Value, Sum, PointerPlus, PlusPointer, PointerMinus, Way, Given, Up, Down, Both, Either, Choice, Convert, PointerSum, PointerDifference, PointerComparison, Moved, Stepped, Not, object_type, value_type}
use Rattle.c_types_rules.specs.Operators.{arithmetic, shift, pointer_sum, sum_of, difference_of, comparison_of, logical, binary, signed_operand, assigned, changed, moved, compound_of, assignment_of, step_of, pointers_chosen, unlike_chosen, is_settled, choice, cast, can_cast, scalar, are_comparable, fits, size_in, to_kind, rule_of_right}
use Rattle.c_lower_placement.specs.Heights.{pair_depth, sum_depth, object_depth, value_depth}
use Rattle.c_lower_depth_laws.specs.Expressions.{binary_depth, assignment_depth}
use Rattle.c_lower_depth_laws.proofs.Found.{Finds, finds_last, finds_kept, finds_needed}

-- a value of this depth
abbrev pub Deep : ℕ → Value → Type 0
Deep n v = value_depth v ≡ n

-- the second of two above the first
abbrev pub Pair : Value → Value → Value → Type 0
Pair a b = Deep (pair_depth (value_depth a) (value_depth b))

arithmetic_deep : (from : ℕ) (op : Op) (a b : Value) → Finds (Pair a b) 0 (arithmetic from op a b)
arithmetic_deep from op a b = finds_needed (Pair a b) 0 from 5 (kind_in (value_type a)) _ (λ i. finds_needed (Pair a b) 0 from 5 (kind_in (value_type b)) _ (λ j. (refl, refl)))

shift_deep : (from : ℕ) (op : Op) (a b : Value) → Finds (Pair a b) 0 (shift from op a b)
shift_deep from op a b = finds_needed (Pair a b) 0 from 5 (kind_in (value_type a)) _ (λ i. finds_needed (Pair a b) 0 from 5 (kind_in (value_type b)) _ (λ j. (refl, refl)))

pointer_sum_deep : (structs : List Extent) (from rule : ℕ) (s : Sum) (t : CType) (p i : Value) → Finds (Deep (sum_depth s (value_depth p) (value_depth i))) 0 (pointer_sum structs from rule s t p i)
pointer_sum_deep structs from rule s t p i =
    finds_kept (Deep (sum_depth s (value_depth p) (value_depth i))) 0 from rule (is_complete structs t) (keep from rule (is_integer (value_type i)) >> Fine (PointerSum s p (to_kind I64 i) (size_in structs t)))
    (finds_kept (Deep (sum_depth s (value_depth p) (value_depth i))) 0 from rule (is_integer (value_type i)) (Fine (PointerSum s p (to_kind I64 i) (size_in structs t))) (refl, refl))

sum_deep : (structs : List Extent) (from : ℕ) (a b : Value) (t u : CType) → Finds (Pair a b) 0 (sum_of structs from a b t u)
sum_deep structs from a b (PointerTo t) u = pointer_sum_deep structs from 5 PointerPlus t a b
sum_deep structs from a b t (PointerTo u) = pointer_sum_deep structs from 5 PlusPointer u b a
sum_deep structs from a b t u = arithmetic_deep from Add a b

difference_deep : (structs : List Extent) (from : ℕ) (a b : Value) (t u : CType) → Finds (Pair a b) 0 (difference_of structs from a b t u)
difference_deep structs from a b (PointerTo t) (PointerTo u) = finds_kept (Pair a b) 0 from 5 (same_type t u && is_complete structs t) (Fine (PointerDifference a b (size_in structs t))) (refl, refl)
difference_deep structs from a b (PointerTo t) u = pointer_sum_deep structs from 5 PointerMinus t a b
difference_deep structs from a b t u = arithmetic_deep from Sub a b

comparison_deep : (from : ℕ) (op : Op) (a b : Value) (t u : CType) → Finds (Pair a b) 0 (comparison_of from op a b t u)
comparison_deep from op a b (PointerTo t) (PointerTo u) = finds_kept (Pair a b) 0 from 5 (are_comparable t u) (Fine (PointerComparison op a b)) (refl, refl)
comparison_deep from op a b (PointerTo t) u = finds_kept (Pair a b) 0 from 5 (is_null b) (Fine (PointerComparison op a (Convert (PointerTo t) b))) (refl, refl)
comparison_deep from op a b t (PointerTo u) = finds_kept (Pair a b) 0 from 5 (is_null a) (Fine (PointerComparison op (Convert (PointerTo u) a) b)) (refl, refl)
comparison_deep from op a b t u = arithmetic_deep from op a b

-- one after the other
abbrev pub After : Value → Value → Value → Type 0
After a b = Deep (max (value_depth a) (value_depth b))

both_deep : (from : ℕ) (a b : Value) → Finds (After a b) 0 (logical from Both a b)
both_deep from a b = finds_kept (After a b) 0 from 10 (is_scalar (value_type a)) (scalar from b >> Fine (Both a b)) (finds_kept (After a b) 0 from 10 (is_scalar (value_type b)) (Fine (Both a b)) (refl, refl))

either_deep : (from : ℕ) (a b : Value) → Finds (After a b) 0 (logical from Either a b)
either_deep from a b = finds_kept (After a b) 0 from 10 (is_scalar (value_type a)) (scalar from b >> Fine (Either a b)) (finds_kept (After a b) 0 from 10 (is_scalar (value_type b)) (Fine (Either a b)) (refl, refl))

pub binary_deep : (structs : List Extent) (from : ℕ) (s : Sign) (a b : Value) → Finds (Deep (binary_depth s (value_depth a) (value_depth b))) 0 (binary structs from s a b)
binary_deep structs from signs.Comma a b = (refl, refl)
binary_deep structs from signs.OrOr a b = either_deep from a b
binary_deep structs from signs.AndAnd a b = both_deep from a b
binary_deep structs from signs.Bar a b = arithmetic_deep from Or a b
binary_deep structs from signs.Caret a b = arithmetic_deep from Xor a b
binary_deep structs from signs.Ampersand a b = arithmetic_deep from And a b
binary_deep structs from signs.Equal a b = comparison_deep from Eq a b (value_type a) (value_type b)
binary_deep structs from signs.NotEqual a b = comparison_deep from Ne a b (value_type a) (value_type b)
binary_deep structs from signs.Less a b = comparison_deep from Lt a b (value_type a) (value_type b)
binary_deep structs from signs.Greater a b = comparison_deep from Gt a b (value_type a) (value_type b)
binary_deep structs from signs.LessEqual a b = comparison_deep from Le a b (value_type a) (value_type b)
binary_deep structs from signs.GreaterEqual a b = comparison_deep from Ge a b (value_type a) (value_type b)
binary_deep structs from signs.ShiftLeft a b = shift_deep from Shl a b
binary_deep structs from signs.ShiftRight a b = shift_deep from Shr a b
binary_deep structs from signs.Plus a b = sum_deep structs from a b (value_type a) (value_type b)
binary_deep structs from signs.Minus a b = difference_deep structs from a b (value_type a) (value_type b)
binary_deep structs from signs.Star a b = arithmetic_deep from Mul a b
binary_deep structs from signs.Slash a b = arithmetic_deep from Div a b
binary_deep structs from signs.Percent a b = arithmetic_deep from Rem a b
binary_deep structs from s a b = tt

pub signed_deep : (from : ℕ) (s : Sign) (v : Value) → Finds (Deep (value_depth v)) 0 (signed_operand from s v)
signed_deep from signs.Plus v = finds_needed (Deep (value_depth v)) 0 from 5 (kind_in (value_type v)) _ (λ k. (refl, refl))
signed_deep from signs.Minus v = finds_needed (Deep (value_depth v)) 0 from 5 (kind_in (value_type v)) _ (λ k. (refl, refl))
signed_deep from signs.Tilde v = finds_needed (Deep (value_depth v)) 0 from 5 (kind_in (value_type v)) _ (λ k. (refl, refl))
signed_deep from signs.Exclamation v = finds_kept (Deep (value_depth v)) 0 from 10 (is_scalar (value_type v)) (Fine (Not v)) (refl, refl)
signed_deep from s v = tt

pub assigned_deep : (from : ℕ) (t : CType) (v : Value) → Finds (Deep (value_depth v)) 0 (assigned from t v)
assigned_deep from t v = finds_kept (Deep (value_depth v)) 0 from 6 (fits t (value_type v) v) (Fine (Convert t v)) (refl, refl)

-- the value above the address and the old value
abbrev pub Above : Object → Value → Value → Type 0
Above o b = Deep (max (object_depth o) (2 + value_depth b))

changed_deep : (from : ℕ) (op : Op) (o : Object) (j : IntKind) (b : Value) → Finds (Above o b) 0 (changed from op o j b)
changed_deep from Shl o j b = finds_needed (Above o b) 0 from 5 (kind_in (value_type b)) _ (λ i. (refl, refl))
changed_deep from Shr o j b = finds_needed (Above o b) 0 from 5 (kind_in (value_type b)) _ (λ i. (refl, refl))
changed_deep from op o j b = finds_needed (Above o b) 0 from 5 (kind_in (value_type b)) _ (λ i. (refl, refl))

moved_deep : (structs : List Extent) (from : ℕ) (w : Way) (o : Object) (t : CType) (i : Value) → Finds (Above o i) 0 (moved structs from w o t i)
moved_deep structs from w o t i =
    finds_kept (Above o i) 0 from 5 (is_complete structs t) (keep from 5 (is_integer (value_type i)) >> Fine (Moved o w (to_kind I64 i) (size_in structs t)))
    (finds_kept (Above o i) 0 from 5 (is_integer (value_type i)) (Fine (Moved o w (to_kind I64 i) (size_in structs t))) (refl, refl))

compound_deep : (structs : List Extent) (from : ℕ) (op : Op) (o : Object) (t : CType) (b : Value) → Finds (Above o b) 0 (compound_of structs from op o t b)
compound_deep structs from op o (Integer j) b = changed_deep from op o j b
compound_deep structs from Add o (PointerTo t) b = moved_deep structs from Up o t b
compound_deep structs from Sub o (PointerTo t) b = moved_deep structs from Down o t b
compound_deep structs from op o t b = tt

pub assignment_deep : (structs : List Extent) (from : ℕ) (op : Option Op) (o : Object) (b : Value) → Finds (Deep (assignment_depth op (object_depth o) (value_depth b))) 0 (assignment_of structs from op o b)
assignment_deep structs from None o b = finds_last (Deep (value_depth b)) (Deep (assignment_depth None (object_depth o) (value_depth b))) 0 (assigned from (object_type o) b) _ (assigned_deep from (object_type o) b) (λ v e. (ap (λ n. max (object_depth o) (1 + n)) e, refl))
assignment_deep structs from (Some op) o b = finds_kept (Above o b) 0 from (rule_of_right structs op (object_type o) (value_type b)) (is_integer (value_type b)) (compound_of structs from op o (object_type o) b) (compound_deep structs from op o (object_type o) b)

pub step_deep : (structs : List Extent) (from : ℕ) (w : Way) (g : Given) (o : Object) (t : CType) → Finds (Deep (max (object_depth o) 2)) 0 (step_of structs from w g o t)
step_deep structs from w g o (Integer k) = (refl, refl)
step_deep structs from w g o (PointerTo t) = finds_kept (Deep (max (object_depth o) 2)) 0 from 8 (is_complete structs t) (Fine (Stepped o w g (size_in structs t))) (refl, refl)
step_deep structs from w g o t = tt

-- the greatest of three
abbrev pub OfThree : Value → Value → Value → Value → Type 0
OfThree c a b = Deep (max (value_depth c) (max (value_depth a) (value_depth b)))

pointers_deep : (from : ℕ) (c a b : Value) (t u : CType) → Finds (OfThree c a b) 0 (pointers_chosen from c a b t u)
pointers_deep from c a b Void u = (refl, refl)
pointers_deep from c a b t Void = (refl, refl)
pointers_deep from c a b t u = tt

unlike_deep : (from : ℕ) (c a b : Value) (t u : CType) → Finds (OfThree c a b) 0 (unlike_chosen from c a b t u)
unlike_deep from c a b (Integer m) (Integer n) = (refl, refl)
unlike_deep from c a b (PointerTo t) (PointerTo u) = pointers_deep from c a b t u
unlike_deep from c a b (PointerTo t) u = finds_kept (OfThree c a b) 0 from 20 (is_null b) (Fine (Choice c a (Convert (PointerTo t) b))) (refl, refl)
unlike_deep from c a b t (PointerTo u) = finds_kept (OfThree c a b) 0 from 20 (is_null a) (Fine (Choice c (Convert (PointerTo u) a) b)) (refl, refl)
unlike_deep from c a b t u = tt

pub choice_deep : (from : ℕ) (c a b : Value) → Finds (OfThree c a b) 0 (choice from c a b)
choice_deep from c a b =
    finds_kept (OfThree c a b) 0 from 10 (is_scalar (value_type c)) (cond (is_settled (value_type a) (value_type b)) (Fine (Choice c a b)) (unlike_chosen from c a b (value_type a) (value_type b))) (by (is_settled (value_type a) (value_type b)))
  where
    by : (settled : Bool) → Finds (OfThree c a b) 0 (cond settled (Fine (Choice c a b)) (unlike_chosen from c a b (value_type a) (value_type b)))
    by true = (refl, refl)
    by false = unlike_deep from c a b (value_type a) (value_type b)

pub cast_deep : (from : ℕ) (t : CType) (v : Value) → Finds (Deep (value_depth v)) 0 (cast from t v)
cast_deep from t v = finds_kept (Deep (value_depth v)) 0 from 7 (can_cast t (value_type v)) (Fine (Convert t v)) (refl, refl)

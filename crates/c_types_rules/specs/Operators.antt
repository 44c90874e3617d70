-- What operators make of values, and which rules they break (C11 6.3 and 6.5). `from` is the offset of the
-- node.
use Rattle.std.specs.Prelude.{ℕ, Bool, true, false, ◌&&◌, ◌||◌, not, if◌then◌else◌, List, Option, Some, None}
use Rattle.r2_num.specs.declared.kinds.IntKind.{IntKind}
use Rattle.r2_num.specs.declared.kinds.IntKind.TheVariants.{I64, U64}
use Rattle.r2_num.specs.declared.operations.Op.{Op}
use Rattle.r2_num.specs.declared.operations.Op.TheVariants.{Add, Sub, Mul, Div, Rem, Shl, Shr, And, Or, Xor, Eq, Ne, Lt, Le, Gt, Ge}
use Rattle.r2_num.specs.Conversions.{common_of, promoted}
use Rattle.c_lexer.specs.declared.token.Sign.{Sign}
use Rattle.c_lexer.specs.declared.token.Sign.TheVariants as signs
use Rattle.c_types_model.specs.Types.{CType, Void, Integer, PointerTo}
use Rattle.c_types_model.specs.Layouts.{extent_of, capped}
use Rattle.c_types_model.specs.declared.extent.Extent.{Extent}
use Rattle.c_types_rules.specs.Checked.{Checked, Fine, Broken, keep, need, ◌>>=◌, ◌>>◌}
use Rattle.c_types_rules.specs.TypeTests.{same_type, is_void, is_scalar, is_object, kind_in, is_complete, is_integer}
use Rattle.c_types_rules.specs.Constants.{is_null}
use Rattle.c_types_rules.specs.TypedTree.{Object, Value, Typed, AnObject, Sum, PointerPlus, PlusPointer, PointerMinus, Way, Up, Down, Given, Convert, Negate, Complement, Arithmetic, PointerSum, PointerDifference, PointerComparison, Not, Both, Either, Choice, Sequence, Assigned, Changed, Moved, Stepped, value_type, object_type}

-- the size of a complete object type
abbrev pub size_in : (structs : List Extent) → CType → ℕ
size_in structs t = elim (extent_of structs t) [ Some e ↦ capped e.size | None ↦ 0 ]

abbrev pub to_kind : IntKind → Value → Value
to_kind k v = Convert (Integer k) v

-- the kind of an integer operand
abbrev pub integer_kind : (from : ℕ) → Value → Checked IntKind
integer_kind from v = need from 5 (kind_in (value_type v))

-- two integers, converted to their common kind (C11 6.3.1.8)
abbrev pub arithmetic : (from : ℕ) → Op → Value → Value → Checked Value
arithmetic from op a b = do
  j ← integer_kind from a
  k ← integer_kind from b
  Fine (Arithmetic op (common_of j k) (to_kind (common_of j k) a) (to_kind (common_of j k) b))

-- each side is promoted by itself (C11 6.5.7, 3)
abbrev pub shift : (from : ℕ) → Op → Value → Value → Checked Value
shift from op a b = do
  j ← integer_kind from a
  k ← integer_kind from b
  Fine (Arithmetic op (promoted j) (to_kind (promoted j) a) (to_kind (promoted k) b))

-- a pointer to a complete object and an integer (C11 6.5.6, 2 and 3)
abbrev pub pointer_sum : (structs : List Extent) → (from rule : ℕ) → Sum → (target : CType) →
    (pointer index : Value) → Checked Value
pointer_sum structs from rule s t p i = do
  keep from rule (is_complete structs t)
  keep from rule (is_integer (value_type i))
  Fine (PointerSum s p (to_kind I64 i) (size_in structs t))

abbrev pub sum_of : (structs : List Extent) → (from : ℕ) → Value → Value → CType → CType → Checked Value
sum_of structs from a b (PointerTo t) u = pointer_sum structs from 5 PointerPlus t a b
sum_of structs from a b t (PointerTo u) = pointer_sum structs from 5 PlusPointer u b a
sum_of structs from a b t u = arithmetic from Add a b

abbrev pub sum : (structs : List Extent) → (from : ℕ) → Value → Value → Checked Value
sum structs from a b = sum_of structs from a b (value_type a) (value_type b)

abbrev pub pointer_difference : (structs : List Extent) → (from : ℕ) → CType → CType → Value → Value →
    Checked Value
pointer_difference structs from t u a b = do
  keep from 5 (same_type t u && is_complete structs t)
  Fine (PointerDifference a b (size_in structs t))

abbrev pub difference_of : (structs : List Extent) → (from : ℕ) → Value → Value → CType → CType →
    Checked Value
difference_of structs from a b (PointerTo t) (PointerTo u) = pointer_difference structs from t u a b
difference_of structs from a b (PointerTo t) u = pointer_sum structs from 5 PointerMinus t a b
difference_of structs from a b t u = arithmetic from Sub a b

abbrev pub difference : (structs : List Extent) → (from : ℕ) → Value → Value → Checked Value
difference structs from a b = difference_of structs from a b (value_type a) (value_type b)

-- whether pointers to these can be compared: of one type, or one of them to void
abbrev pub are_comparable : CType → CType → Bool
are_comparable t u = same_type t u || (is_void t || is_void u)

abbrev pub comparison_of : (from : ℕ) → Op → Value → Value → CType → CType → Checked Value
comparison_of from op a b (PointerTo t) (PointerTo u) =
    keep from 5 (are_comparable t u) >> Fine (PointerComparison op a b)
comparison_of from op a b (PointerTo t) u = keep from 5 (is_null b) >> Fine
    (PointerComparison op a (Convert (PointerTo t) b))
comparison_of from op a b t (PointerTo u) = keep from 5 (is_null a) >> Fine
    (PointerComparison op (Convert (PointerTo u) a) b)
comparison_of from op a b t u = arithmetic from op a b

-- integers, or pointers, or a pointer and the constant 0 (C11 6.5.8, 6.5.9)
abbrev pub comparison : (from : ℕ) → Op → Value → Value → Checked Value
comparison from op a b = comparison_of from op a b (value_type a) (value_type b)

abbrev pub scalar : (from : ℕ) → Value → Checked (Unit {0})
scalar from v = keep from 10 (is_scalar (value_type v))

-- C11 6.5.13, 6.5.14
abbrev pub logical : (from : ℕ) → (Value → Value → Value) → Value → Value → Checked Value
logical from make a b = do
  scalar from a
  scalar from b
  Fine (make a b)

-- an operator between two operands; there is no other (C11 6.5.5 to 6.5.14, 6.5.17)
abbrev pub binary : (structs : List Extent) → (from : ℕ) → Sign → Value → Value → Checked Value
binary structs from signs.Comma a b = Fine (Sequence a b)
binary structs from signs.OrOr a b = logical from Either a b
binary structs from signs.AndAnd a b = logical from Both a b
binary structs from signs.Bar a b = arithmetic from Or a b
binary structs from signs.Caret a b = arithmetic from Xor a b
binary structs from signs.Ampersand a b = arithmetic from And a b
binary structs from signs.Equal a b = comparison from Eq a b
binary structs from signs.NotEqual a b = comparison from Ne a b
binary structs from signs.Less a b = comparison from Lt a b
binary structs from signs.Greater a b = comparison from Gt a b
binary structs from signs.LessEqual a b = comparison from Le a b
binary structs from signs.GreaterEqual a b = comparison from Ge a b
binary structs from signs.ShiftLeft a b = shift from Shl a b
binary structs from signs.ShiftRight a b = shift from Shr a b
binary structs from signs.Plus a b = sum structs from a b
binary structs from signs.Minus a b = difference structs from a b
binary structs from signs.Star a b = arithmetic from Mul a b
binary structs from signs.Slash a b = arithmetic from Div a b
binary structs from signs.Percent a b = arithmetic from Rem a b
binary structs from _ a b = Broken from 5

-- `+`, `-` and `~` (C11 6.5.3.3)
abbrev pub promoted_operand : (from : ℕ) → (IntKind → Value → Value) → Value → Checked Value
promoted_operand from make v = do
  k ← integer_kind from v
  Fine (make (promoted k) (to_kind (promoted k) v))

abbrev pub as_it_is : IntKind → Value → Value
as_it_is k v = v

abbrev pub signed_operand : (from : ℕ) → Sign → Value → Checked Value
signed_operand from signs.Plus v = promoted_operand from as_it_is v
signed_operand from signs.Minus v = promoted_operand from Negate v
signed_operand from signs.Tilde v = promoted_operand from Complement v
signed_operand from signs.Exclamation v = scalar from v >> Fine (Not v)
signed_operand from _ v = Broken from 5

-- a value of this type may be assigned to an object of that one (C11 6.5.16.1)
abbrev pub fits : CType → CType → Value → Bool
fits (Integer j) (Integer k) v = true
fits (PointerTo t) (PointerTo u) v = same_type t u ||
    ((is_void t && is_object u) || (is_object t && is_void u))
fits (PointerTo t) (Integer k) v = is_null v
fits _ _ v = false

-- a value is converted as if by assignment
abbrev pub assigned : (from : ℕ) → CType → Value → Checked Value
assigned from t v = do
  keep from 6 (fits t (value_type v) v)
  Fine (Convert t v)

-- the object on the left of an assignment
abbrev pub left_object : (from : ℕ) → Typed → Checked Object
left_object from (AnObject o) = keep from 8 (is_scalar (object_type o)) >> Fine o
left_object from _ = Broken from 8

-- the operator of a compound assignment; None of the simple one
abbrev pub operator_in : Sign → Option Op
operator_in signs.StarAssign = Some Mul
operator_in signs.SlashAssign = Some Div
operator_in signs.PercentAssign = Some Rem
operator_in signs.PlusAssign = Some Add
operator_in signs.MinusAssign = Some Sub
operator_in signs.ShiftLeftAssign = Some Shl
operator_in signs.ShiftRightAssign = Some Shr
operator_in signs.AmpersandAssign = Some And
operator_in signs.CaretAssign = Some Xor
operator_in signs.BarAssign = Some Or
operator_in _ = None

abbrev pub changed : (from : ℕ) → Op → Object → IntKind → Value → Checked Value
changed from Shl o j b = do
  k ← integer_kind from b
  Fine (Changed o Shl (promoted j) (to_kind (promoted k) b))
changed from Shr o j b = do
  k ← integer_kind from b
  Fine (Changed o Shr (promoted j) (to_kind (promoted k) b))
changed from op o j b = do
  k ← integer_kind from b
  Fine (Changed o op (common_of j k) (to_kind (common_of j k) b))

abbrev pub moved : (structs : List Extent) → (from : ℕ) → Way → Object → (target : CType) → Value →
    Checked Value
moved structs from w o t i = do
  keep from 5 (is_complete structs t)
  keep from 5 (is_integer (value_type i))
  Fine (Moved o w (to_kind I64 i) (size_in structs t))

abbrev pub compound_of : (structs : List Extent) → (from : ℕ) → Op → Object → CType → Value → Checked Value
compound_of structs from op o (Integer j) b = changed from op o j b
compound_of structs from Add o (PointerTo t) b = moved structs from Up o t b
compound_of structs from Sub o (PointerTo t) b = moved structs from Down o t b
compound_of structs from op o t b = Broken from 5

-- whether the sum of these is a pointer, and the difference of these an integer: neither fits the object on
-- the left (C11 6.5.6)
abbrev pub sum_is_pointer : (structs : List Extent) → (left right : CType) → Bool
sum_is_pointer structs (Integer j) (PointerTo u) = is_complete structs u
sum_is_pointer structs _ _ = false

abbrev pub difference_is_integer : (structs : List Extent) → (left right : CType) → Bool
difference_is_integer structs (PointerTo t) (PointerTo u) = same_type t u && is_complete structs t
difference_is_integer structs _ _ = false

abbrev pub is_unfit : (structs : List Extent) → Op → (left right : CType) → Bool
is_unfit structs Add t u = sum_is_pointer structs t u
is_unfit structs Sub t u = difference_is_integer structs t u
is_unfit structs _ t u = false

-- the rule that the right side of a compound assignment breaks which is no integer
abbrev pub rule_of_right : (structs : List Extent) → Op → (left right : CType) → ℕ
rule_of_right structs op t u = if is_unfit structs op t u then 6 else 5

abbrev pub assignment_of : (structs : List Extent) → (from : ℕ) → Option Op → Object → Value → Checked Value
assignment_of structs from None o b = do
  v ← assigned from (object_type o) b
  Fine (Assigned o v)
assignment_of structs from (Some op) o b = do
  keep from (rule_of_right structs op (object_type o) (value_type b)) (is_integer (value_type b))
  compound_of structs from op o (object_type o) b

-- C11 6.5.16
abbrev pub assignment : (structs : List Extent) → (from : ℕ) → Sign → Typed → Value → Checked Value
assignment structs from s a b = do
  o ← left_object from a
  assignment_of structs from (operator_in s) o b

abbrev pub step_of : (structs : List Extent) → (from : ℕ) → Way → Given → Object → CType → Checked Value
step_of structs from w g o (Integer k) = Fine (Stepped o w g 1)
step_of structs from w g o (PointerTo t) = keep from 8 (is_complete structs t) >> Fine
    (Stepped o w g (size_in structs t))
step_of structs from w g o t = Broken from 8

-- `++` and `--` (C11 6.5.2.4, 6.5.3.1)
abbrev pub step : (structs : List Extent) → (from : ℕ) → Way → Given → Typed → Checked Value
step structs from w g (AnObject o) = step_of structs from w g o (object_type o)
step structs from w g _ = Broken from 8

abbrev pub pointers_chosen : (from : ℕ) → Value → Value → Value → CType → CType → Checked Value
pointers_chosen from c a b Void u = Fine (Choice c a (Convert (PointerTo Void) b))
pointers_chosen from c a b t Void = Fine (Choice c (Convert (PointerTo Void) a) b)
pointers_chosen from c a b t u = Broken from 20

abbrev pub unlike_chosen : (from : ℕ) → Value → Value → Value → CType → CType → Checked Value
unlike_chosen from c a b (Integer j) (Integer k) =
    Fine (Choice c (to_kind (common_of j k) a) (to_kind (common_of j k) b))
unlike_chosen from c a b (PointerTo t) (PointerTo u) = pointers_chosen from c a b t u
unlike_chosen from c a b (PointerTo t) u = keep from 20 (is_null b) >> Fine
    (Choice c a (Convert (PointerTo t) b))
unlike_chosen from c a b t (PointerTo u) = keep from 20 (is_null a) >> Fine
    (Choice c (Convert (PointerTo u) a) b)
unlike_chosen from c a b t u = Broken from 20

-- arms of equal type stay as they are, but integers are converted to their common kind
abbrev pub is_settled : CType → CType → Bool
is_settled t u = same_type t u && not (is_integer t)

-- `? :` (C11 6.5.15)
abbrev pub choice : (from : ℕ) → Value → Value → Value → Checked Value
choice from c a b = do
  scalar from c
  if is_settled (value_type a) (value_type b) then Fine (Choice c a b) else unlike_chosen from c a b
      (value_type a) (value_type b)

-- to void, among integers, among pointers, and between pointer and long or unsigned long
abbrev pub can_cast : CType → CType → Bool
can_cast Void t = true
can_cast (Integer j) (Integer k) = true
can_cast (PointerTo t) (PointerTo u) = true
can_cast (PointerTo t) (Integer I64) = true
can_cast (PointerTo t) (Integer U64) = true
can_cast (Integer I64) (PointerTo t) = true
can_cast (Integer U64) (PointerTo t) = true
can_cast _ _ = false

-- C11 6.5.4
abbrev pub cast : (from : ℕ) → CType → Value → Checked Value
cast from t v = do
  keep from 7 (can_cast t (value_type v))
  Fine (Convert t v)

-- In a typed expression each call by name is plain: of a function by its own number, or of a builtin with converted values.
use Rattle.std.proofs.Common.{◌≡◌, ℕ, ◌≤◌, Bool, true, false, cond, ◌&&◌, List, Option, Some, None, refl, sym, subst}
use Rattle.std.specs.Prelude.{pos}
use Rattle.r2_num.specs.declared.kinds.IntKind.{IntKind}
use Rattle.r2_num.specs.declared.kinds.IntKind.TheVariants.{I64, U64}
use Rattle.r2_num.specs.declared.operations.Op.{Op}
use Rattle.r2_num.specs.declared.operations.Op.TheVariants.{Add, Sub, Mul, Div, Rem, Shl, Shr, And, Or, Xor, Eq, Ne, Lt, Le, Gt, Ge}
use Rattle.c_lexer.specs.declared.token.Sign.{Sign}
use Rattle.c_lexer.specs.declared.token.Sign.TheVariants as signs
use Rattle.c_syntax.specs.Syntax.{Expr, Exprs, Name, Number, Char, Text, Binary, Assign, Cond, Prefix, Postfix, SizeofExpr, SizeofType, Cast, Index, Call, Member, Arrow, NoExprs, MoreExprs}
use Rattle.c_types_model.specs.Types.{CType, CTypes, Void, Integer, PointerTo, ArrayOf, StructOf, UndefinedStruct, FunctionOf, NoTypes, MoreTypes}
use Rattle.c_types_model.specs.declared.extent.Extent.{Extent}
use Rattle.c_builtins.specs.declared.builtin.Builtin.{Builtin}
use Rattle.c_builtins.specs.Table.{first_source_function, prototype_of}
use Rattle.c_scopes.specs.Scopes.{meaning_of}
use Rattle.c_types_rules.specs.Checked.{Checked, Fine, keep, need, unevaluated, ◌>>=◌, ◌>>◌}
use Rattle.c_types_rules.specs.TypeTests.{is_complete, is_integer, is_scalar, same_type}
use Rattle.c_types_rules.specs.Constants.{is_null}
use Rattle.c_types_rules.specs.TypedTree.{Object, Value, Values, Callee, Typed, Sum, PointerPlus, PlusPointer, PointerMinus, Way, Given, Up, Down, New, Old, Both, Either, Choice, SourceFunction, BuiltinFunction, Through, AnObject, AFunction, AValue, Convert, PointerSum, PointerDifference, PointerComparison, Moved, Stepped, MemberOf, Pointed, Element, typed_type, object_type, value_type, read_as, address_of_callee, value_of}
use Rattle.c_types_rules.specs.Operators.{arithmetic, shift, pointer_sum, sum_of, difference_of, comparison_of, logical, binary, signed_operand, assigned, left_object, changed, moved, compound_of, assignment_of, operator_in, assignment, step_of, step, pointers_chosen, unlike_chosen, is_settled, choice, cast, can_cast, integer_kind, scalar, are_comparable, fits, size_in, to_kind, rule_of_right}
use Rattle.c_types_rules.specs.Environment.{Environment, Meaning, FunctionNamed, GlobalNamed, LocalNamed, builtin_of, extents}
use Rattle.c_types_rules.specs.Expressions.{expression, arguments, declared_type, meant, unknown_name, member, member_of, arrow_of, pointed_of, element, subscript_of, address, a_value, prefixed, postfixed, function_type, called_value, called, builtin_called, builtin_in, constant, member_in, start_of}
use Rattle.c_types_rules.specs.Sources.{params_of}
use Rattle.c_semantics.specs.Returned.{IsConverted}
use Rattle.c_semantics.proofs.TypedReturns.{scalar_fits}
use Rattle.c_semantics.specs.Arguments.{AreConverted}
use Rattle.lockset_check_threads.specs.Typed.{InCallee, InObject, InValue, InValues, IsPlainCall}
use Rattle.lockset_check_sources.proofs.Found.{Holds, holds_then, holds_on, holds_after, holds_both, holds_kept}

-- each function that is named has a number of its own
abbrev pub NamesAre : Environment → Type 0
NamesAre env = (name : List ℕ) (number : ℕ) (t : CType) → meaning_of name env.scopes ≡ Some (FunctionNamed number t) → first_source_function ≤ number

abbrev pub PlainValue : Value → Type 0
PlainValue v = InValue IsPlainCall v

abbrev pub PlainObject : Object → Type 0
PlainObject o = InObject IsPlainCall o

-- what is called has this type
abbrev pub CalleeIs : Callee → CType → Type 0
CalleeIs (SourceFunction at number) t = first_source_function ≤ number
CalleeIs (BuiltinFunction at b) t = prototype_of b ≡ t
CalleeIs (Through v) t = PlainValue v

abbrev pub PlainTyped : Typed → Type 0
PlainTyped (AnObject o) = PlainObject o
PlainTyped (AFunction f t) = CalleeIs f t
PlainTyped (AValue v) = PlainValue v

read_plain : (o : Object) (t : CType) → PlainObject o → PlainValue (read_as o t)
read_plain o (ArrayOf n t) h = h
read_plain o Void h = h
read_plain o (Integer k) h = h
read_plain o (PointerTo t) h = h
read_plain o (StructOf n) h = h
read_plain o (UndefinedStruct tag) h = h
read_plain o (FunctionOf r ps) h = h

address_plain : (f : Callee) (t : CType) → CalleeIs f t → PlainValue (address_of_callee f t)
address_plain (SourceFunction at number) t h = tt
address_plain (BuiltinFunction at b) t h = tt
address_plain (Through v) t h = h

pub value_plain : (a : Typed) → PlainTyped a → PlainValue (value_of a)
value_plain (AnObject o) h = read_plain o (object_type o) h
value_plain (AFunction f t) h = address_plain f t h
value_plain (AValue v) h = h

-- ---- operators

arithmetic_plain : (from : ℕ) (op : Op) (a b : Value) → PlainValue a → PlainValue b → Holds PlainValue (arithmetic from op a b)
arithmetic_plain from op a b h k = holds_on PlainValue (integer_kind from a) _ (λ i. holds_on PlainValue (integer_kind from b) _ (λ j. (h, k)))

shift_plain : (from : ℕ) (op : Op) (a b : Value) → PlainValue a → PlainValue b → Holds PlainValue (shift from op a b)
shift_plain from op a b h k = holds_on PlainValue (integer_kind from a) _ (λ i. holds_on PlainValue (integer_kind from b) _ (λ j. (h, k)))

pointer_sum_plain : (structs : List Extent) (from rule : ℕ) (s : Sum) (t : CType) (p i : Value) → PlainValue p → PlainValue i → Holds PlainValue (pointer_sum structs from rule s t p i)
pointer_sum_plain structs from rule s t p i h k = holds_after PlainValue (keep from rule (is_complete structs t)) (keep from rule (is_integer (value_type i)) >> Fine (PointerSum s p (to_kind I64 i) (size_in structs t)))
    (holds_after PlainValue (keep from rule (is_integer (value_type i))) (Fine (PointerSum s p (to_kind I64 i) (size_in structs t))) (h, k))

sum_plain : (structs : List Extent) (from : ℕ) (a b : Value) (t u : CType) → PlainValue a → PlainValue b → Holds PlainValue (sum_of structs from a b t u)
sum_plain structs from a b (PointerTo t) u h k = pointer_sum_plain structs from 5 PointerPlus t a b h k
sum_plain structs from a b t (PointerTo u) h k = pointer_sum_plain structs from 5 PlusPointer u b a k h
sum_plain structs from a b t u h k = arithmetic_plain from Add a b h k

difference_plain : (structs : List Extent) (from : ℕ) (a b : Value) (t u : CType) → PlainValue a → PlainValue b → Holds PlainValue (difference_of structs from a b t u)
difference_plain structs from a b (PointerTo t) (PointerTo u) h k = holds_after PlainValue (keep from 5 (same_type t u && is_complete structs t)) (Fine (PointerDifference a b (size_in structs t))) (h, k)
difference_plain structs from a b (PointerTo t) u h k = pointer_sum_plain structs from 5 PointerMinus t a b h k
difference_plain structs from a b t u h k = arithmetic_plain from Sub a b h k

comparison_plain : (from : ℕ) (op : Op) (a b : Value) (t u : CType) → PlainValue a → PlainValue b → Holds PlainValue (comparison_of from op a b t u)
comparison_plain from op a b (PointerTo t) (PointerTo u) h k = holds_after PlainValue (keep from 5 (are_comparable t u)) (Fine (PointerComparison op a b)) (h, k)
comparison_plain from op a b (PointerTo t) u h k = holds_after PlainValue (keep from 5 (is_null b)) (Fine (PointerComparison op a (Convert (PointerTo t) b))) (h, k)
comparison_plain from op a b t (PointerTo u) h k = holds_after PlainValue (keep from 5 (is_null a)) (Fine (PointerComparison op (Convert (PointerTo u) a) b)) (h, k)
comparison_plain from op a b t u h k = arithmetic_plain from op a b h k

both_plain : (from : ℕ) (a b : Value) → PlainValue a → PlainValue b → Holds PlainValue (logical from Both a b)
both_plain from a b h k = holds_after PlainValue (scalar from a) _ (holds_after PlainValue (scalar from b) _ (h, k))

either_plain : (from : ℕ) (a b : Value) → PlainValue a → PlainValue b → Holds PlainValue (logical from Either a b)
either_plain from a b h k = holds_after PlainValue (scalar from a) _ (holds_after PlainValue (scalar from b) _ (h, k))

binary_plain : (structs : List Extent) (from : ℕ) (s : Sign) (a b : Value) → PlainValue a → PlainValue b → Holds PlainValue (binary structs from s a b)
binary_plain structs from signs.Comma a b h k = (h, k)
binary_plain structs from signs.OrOr a b h k = either_plain from a b h k
binary_plain structs from signs.AndAnd a b h k = both_plain from a b h k
binary_plain structs from signs.Bar a b h k = arithmetic_plain from Or a b h k
binary_plain structs from signs.Caret a b h k = arithmetic_plain from Xor a b h k
binary_plain structs from signs.Ampersand a b h k = arithmetic_plain from And a b h k
binary_plain structs from signs.Equal a b h k = comparison_plain from Eq a b (value_type a) (value_type b) h k
binary_plain structs from signs.NotEqual a b h k = comparison_plain from Ne a b (value_type a) (value_type b) h k
binary_plain structs from signs.Less a b h k = comparison_plain from Lt a b (value_type a) (value_type b) h k
binary_plain structs from signs.Greater a b h k = comparison_plain from Gt a b (value_type a) (value_type b) h k
binary_plain structs from signs.LessEqual a b h k = comparison_plain from Le a b (value_type a) (value_type b) h k
binary_plain structs from signs.GreaterEqual a b h k = comparison_plain from Ge a b (value_type a) (value_type b) h k
binary_plain structs from signs.ShiftLeft a b h k = shift_plain from Shl a b h k
binary_plain structs from signs.ShiftRight a b h k = shift_plain from Shr a b h k
binary_plain structs from signs.Plus a b h k = sum_plain structs from a b (value_type a) (value_type b) h k
binary_plain structs from signs.Minus a b h k = difference_plain structs from a b (value_type a) (value_type b) h k
binary_plain structs from signs.Star a b h k = arithmetic_plain from Mul a b h k
binary_plain structs from signs.Slash a b h k = arithmetic_plain from Div a b h k
binary_plain structs from signs.Percent a b h k = arithmetic_plain from Rem a b h k
binary_plain structs from s a b h k = tt

signed_plain : (from : ℕ) (s : Sign) (v : Value) → PlainValue v → Holds PlainValue (signed_operand from s v)
signed_plain from signs.Plus v h = holds_on PlainValue (integer_kind from v) _ (λ k. h)
signed_plain from signs.Minus v h = holds_on PlainValue (integer_kind from v) _ (λ k. h)
signed_plain from signs.Tilde v h = holds_on PlainValue (integer_kind from v) _ (λ k. h)
signed_plain from signs.Exclamation v h = holds_after PlainValue (scalar from v) _ h
signed_plain from s v h = tt

pub assigned_plain : (from : ℕ) (t : CType) (v : Value) → PlainValue v → Holds PlainValue (assigned from t v)
assigned_plain from t v h = holds_after PlainValue (keep from 6 (fits t (value_type v) v)) (Fine (Convert t v)) h

assigned_converts : (from : ℕ) (t : CType) (v : Value) → Holds (IsConverted t) (assigned from t v)
assigned_converts from t v = holds_kept (IsConverted t) from 6 (fits t (value_type v) v) (Fine (Convert t v)) (λ e. (refl, scalar_fits t (value_type v) v e))

-- an argument
abbrev pub Argument : CType → Value → Type 0
Argument t v = PlainValue v × IsConverted t v

assigned_passes : (from : ℕ) (t : CType) (v : Value) → PlainValue v → Holds (Argument t) (assigned from t v)
assigned_passes from t v h = holds_both PlainValue (IsConverted t) (assigned from t v) (assigned_plain from t v h) (assigned_converts from t v)

left_plain : (from : ℕ) (a : Typed) → PlainTyped a → Holds PlainObject (left_object from a)
left_plain from (AnObject o) h = holds_after PlainObject (keep from 8 (is_scalar (object_type o))) (Fine o) h
left_plain from (AFunction f t) h = tt
left_plain from (AValue v) h = tt

changed_plain : (from : ℕ) (op : Op) (o : Object) (j : IntKind) (b : Value) → PlainObject o → PlainValue b → Holds PlainValue (changed from op o j b)
changed_plain from Shl o j b h k = holds_on PlainValue (integer_kind from b) _ (λ i. (h, k))
changed_plain from Shr o j b h k = holds_on PlainValue (integer_kind from b) _ (λ i. (h, k))
changed_plain from op o j b h k = holds_on PlainValue (integer_kind from b) _ (λ i. (h, k))

moved_plain : (structs : List Extent) (from : ℕ) (w : Way) (o : Object) (t : CType) (i : Value) → PlainObject o → PlainValue i → Holds PlainValue (moved structs from w o t i)
moved_plain structs from w o t i h k =
    holds_after PlainValue (keep from 5 (is_complete structs t)) (keep from 5 (is_integer (value_type i)) >> Fine (Moved o w (to_kind I64 i) (size_in structs t)))
    (holds_after PlainValue (keep from 5 (is_integer (value_type i))) (Fine (Moved o w (to_kind I64 i) (size_in structs t))) (h, k))

compound_plain : (structs : List Extent) (from : ℕ) (op : Op) (o : Object) (t : CType) (b : Value) → PlainObject o → PlainValue b → Holds PlainValue (compound_of structs from op o t b)
compound_plain structs from op o (Integer j) b h k = changed_plain from op o j b h k
compound_plain structs from Add o (PointerTo t) b h k = moved_plain structs from Up o t b h k
compound_plain structs from Sub o (PointerTo t) b h k = moved_plain structs from Down o t b h k
compound_plain structs from op o t b h k = tt

assignment_plain : (structs : List Extent) (from : ℕ) (op : Option Op) (o : Object) (b : Value) → PlainObject o → PlainValue b → Holds PlainValue (assignment_of structs from op o b)
assignment_plain structs from None o b h k = holds_then PlainValue PlainValue (assigned from (object_type o) b) _ (assigned_plain from (object_type o) b k) (λ v j. (h, j))
assignment_plain structs from (Some op) o b h k = holds_after PlainValue (keep from (rule_of_right structs op (object_type o) (value_type b)) (is_integer (value_type b))) _ (compound_plain structs from op o (object_type o) b h k)

stepped_plain : (structs : List Extent) (from : ℕ) (w : Way) (g : Given) (o : Object) (t : CType) → PlainObject o → Holds PlainValue (step_of structs from w g o t)
stepped_plain structs from w g o (Integer k) h = h
stepped_plain structs from w g o (PointerTo t) h = holds_after PlainValue (keep from 8 (is_complete structs t)) (Fine (Stepped o w g (size_in structs t))) h
stepped_plain structs from w g o t h = tt

step_plain : (structs : List Extent) (from : ℕ) (w : Way) (g : Given) (a : Typed) → PlainTyped a → Holds PlainValue (step structs from w g a)
step_plain structs from w g (AnObject o) h = stepped_plain structs from w g o (object_type o) h
step_plain structs from w g (AFunction f t) h = tt
step_plain structs from w g (AValue v) h = tt

pointers_plain : (from : ℕ) (c a b : Value) (t u : CType) → PlainValue c → PlainValue a → PlainValue b → Holds PlainValue (pointers_chosen from c a b t u)
pointers_plain from c a b Void u h k j = (h, k, j)
pointers_plain from c a b t Void h k j = (h, k, j)
pointers_plain from c a b t u h k j = tt

unlike_plain : (from : ℕ) (c a b : Value) (t u : CType) → PlainValue c → PlainValue a → PlainValue b → Holds PlainValue (unlike_chosen from c a b t u)
unlike_plain from c a b (Integer m) (Integer n) h k j = (h, k, j)
unlike_plain from c a b (PointerTo t) (PointerTo u) h k j = pointers_plain from c a b t u h k j
unlike_plain from c a b (PointerTo t) u h k j = holds_after PlainValue (keep from 20 (is_null b)) (Fine (Choice c a (Convert (PointerTo t) b))) (h, k, j)
unlike_plain from c a b t (PointerTo u) h k j = holds_after PlainValue (keep from 20 (is_null a)) (Fine (Choice c (Convert (PointerTo u) a) b)) (h, k, j)
unlike_plain from c a b t u h k j = tt

choice_plain : (from : ℕ) (c a b : Value) → PlainValue c → PlainValue a → PlainValue b → Holds PlainValue (choice from c a b)
choice_plain from c a b h k j = holds_after PlainValue (scalar from c) _ (by (is_settled (value_type a) (value_type b)))
  where
    by : (settled : Bool) → Holds PlainValue (cond settled (Fine (Choice c a b)) (unlike_chosen from c a b (value_type a) (value_type b)))
    by true = (h, k, j)
    by false = unlike_plain from c a b (value_type a) (value_type b) h k j

-- ---- expressions

typed_value : (c : Checked Value) → Holds PlainValue c → Holds PlainTyped (a_value c)
typed_value c h = holds_then PlainValue PlainTyped c _ h (λ v k. k)

meant_plain : (from : ℕ) (name : List ℕ) (m : Option Meaning) → ((number : ℕ) (t : CType) → m ≡ Some (FunctionNamed number t) → first_source_function ≤ number) → Holds PlainTyped (meant from name m)
meant_plain from name (Some (FunctionNamed number t)) h = h number t refl
meant_plain from name (Some (GlobalNamed place t)) h = tt
meant_plain from name (Some (LocalNamed place t)) h = tt
meant_plain from name None h = by (builtin_of name)
  where
    by : (b : Option Builtin) → Holds PlainTyped (unknown_name from b)
    by (Some b) = tt
    by None = tt

member_plain : (env : Environment) (from : ℕ) (o : Object) (t : CType) (name : List ℕ) → PlainObject o → Holds PlainTyped (member_of env from o t name)
member_plain env from o (StructOf number) name h = holds_on PlainTyped (need from 13 (member_in env.structs number name)) (λ m. Fine (AnObject (MemberOf o m.0 m.1))) (λ m. h)
member_plain env from o t name h = tt

named_member_plain : (env : Environment) (from : ℕ) (a : Typed) (name : List ℕ) → PlainTyped a → Holds PlainTyped (member env from a name)
named_member_plain env from (AnObject o) name h = member_plain env from o (object_type o) name h
named_member_plain env from (AFunction f t) name h = tt
named_member_plain env from (AValue v) name h = tt

arrow_plain : (env : Environment) (from : ℕ) (v : Value) (t : CType) (name : List ℕ) → PlainValue v → Holds PlainTyped (arrow_of env from v t name)
arrow_plain env from v (PointerTo (UndefinedStruct tag)) name h = tt
arrow_plain env from v (PointerTo (StructOf number)) name h = holds_after PlainTyped (keep from 2 (is_complete (extents env) (StructOf number))) (member_of env from (Pointed v (StructOf number)) (StructOf number) name)
    (member_plain env from (Pointed v (StructOf number)) (StructOf number) name h)
arrow_plain env from v t name h = tt

pointed_plain : (structs : List Extent) (from : ℕ) (v : Value) (t : CType) → value_type v ≡ t → PlainValue v → Holds PlainTyped (pointed_of structs from v t)
pointed_plain structs from v (PointerTo (FunctionOf r ps)) e h = h
pointed_plain structs from v (PointerTo t) e h = holds_after PlainTyped (keep from 14 (is_complete structs t)) (Fine (AnObject (Pointed v t))) h
pointed_plain structs from v t e h = tt

element_plain : (structs : List Extent) (from : ℕ) (s : Sum) (t : CType) (p i : Value) → PlainValue p → PlainValue i → Holds PlainTyped (element structs from s t p i)
element_plain structs from s t p i h k =
    holds_after PlainTyped (keep from 14 (is_complete structs t)) (keep from 14 (is_integer (value_type i)) >> Fine (AnObject (Element s p (to_kind I64 i) t)))
    (holds_after PlainTyped (keep from 14 (is_integer (value_type i))) (Fine (AnObject (Element s p (to_kind I64 i) t))) (h, k))

subscript_plain : (structs : List Extent) (from : ℕ) (a b : Value) (t u : CType) → PlainValue a → PlainValue b → Holds PlainTyped (subscript_of structs from a b t u)
subscript_plain structs from a b (PointerTo t) u h k = element_plain structs from PointerPlus t a b h k
subscript_plain structs from a b t (PointerTo u) h k = element_plain structs from PlusPointer u b a k h
subscript_plain structs from a b t u h k = tt

taken_plain : (from : ℕ) (a : Typed) → PlainTyped a → Holds PlainTyped (address from a)
taken_plain from (AnObject o) h = h
taken_plain from (AFunction f t) h = address_plain f t h
taken_plain from (AValue v) h = tt

prefixed_plain : (structs : List Extent) (from : ℕ) (s : Sign) (a : Typed) → PlainTyped a → Holds PlainTyped (prefixed structs from s a)
prefixed_plain structs from signs.Increment a h = typed_value (step structs from Up New a) (step_plain structs from Up New a h)
prefixed_plain structs from signs.Decrement a h = typed_value (step structs from Down New a) (step_plain structs from Down New a h)
prefixed_plain structs from signs.Ampersand a h = taken_plain from a h
prefixed_plain structs from signs.Star a h = pointed_plain structs from (value_of a) (value_type (value_of a)) refl (value_plain a h)
prefixed_plain structs from s a h = typed_value (signed_operand from s (value_of a)) (signed_plain from s (value_of a) (value_plain a h))

postfixed_plain : (structs : List Extent) (from : ℕ) (s : Sign) (a : Typed) → PlainTyped a → Holds PlainTyped (postfixed structs from s a)
postfixed_plain structs from signs.Increment a h = typed_value (step structs from Up Old a) (step_plain structs from Up Old a h)
postfixed_plain structs from signs.Decrement a h = typed_value (step structs from Down Old a) (step_plain structs from Down Old a h)
postfixed_plain structs from s a h = tt

-- ---- calls

-- what is called is called plainly with converted values
abbrev pub TakesAll : Callee × CType × CTypes → Type 0
TakesAll f = InCallee IsPlainCall f.0 × ((vs : Values) → AreConverted f.2 vs → IsPlainCall f.0 vs)

takes : (f : Callee) (r : CType) (ps : CTypes) → CalleeIs f (FunctionOf r ps) → TakesAll (f, r, ps)
takes (SourceFunction at number) r ps h = (tt, λ vs k. h)
takes (BuiltinFunction at b) r ps h = (tt, λ vs k. subst (λ t. AreConverted (params_of t) vs) (sym h) k)
takes (Through v) r ps h = (h, λ vs k. tt)

function_takes : (from : ℕ) (f : Callee) (t : CType) → CalleeIs f t → Holds TakesAll (function_type from t >>= (λ g. Fine (f, g.0, g.1)))
function_takes from f (FunctionOf r ps) h = takes f r ps h
function_takes from f Void h = tt
function_takes from f (Integer k) h = tt
function_takes from f (PointerTo t) h = tt
function_takes from f (ArrayOf n t) h = tt
function_takes from f (StructOf n) h = tt
function_takes from f (UndefinedStruct tag) h = tt

pointer_takes : (from : ℕ) (v : Value) (t : CType) → value_type v ≡ t → PlainValue v → Holds TakesAll (called_value from v t)
pointer_takes from v (PointerTo t) e h = function_takes from (Through v) t h
pointer_takes from v Void e h = tt
pointer_takes from v (Integer k) e h = tt
pointer_takes from v (ArrayOf n t) e h = tt
pointer_takes from v (StructOf n) e h = tt
pointer_takes from v (UndefinedStruct tag) e h = tt
pointer_takes from v (FunctionOf r ps) e h = tt

called_takes : (from : ℕ) (a : Typed) → PlainTyped a → Holds TakesAll (called from a)
called_takes from (AFunction f t) h = function_takes from f t h
called_takes from (AnObject o) h = pointer_takes from (value_of (AnObject o)) (value_type (value_of (AnObject o))) refl (value_plain (AnObject o) h)
called_takes from (AValue v) h = pointer_takes from v (value_type v) refl h

callee_takes : (from at : ℕ) (b : Option Builtin) (c : Checked Typed) → Holds PlainTyped c → Holds TakesAll (elim b [ Some f ↦ builtin_called at f | None ↦ c >>= called from ])
callee_takes from at (Some f) c h = function_takes at (BuiltinFunction at f) (prototype_of f) refl
callee_takes from at None c h = holds_then PlainTyped TakesAll c (called from) h (called_takes from)

-- one value per parameter, converted to its type
abbrev pub Passes : CTypes → Values → Type 0
Passes ts vs = InValues IsPlainCall vs × AreConverted ts vs

mutual
  pub expression_plain : (e : Expr) (env : Environment) → NamesAre env → Holds PlainTyped (expression e env)
  expression_plain (Name from name) env ns = meant_plain from name (meaning_of name env.scopes) (ns name)
  expression_plain (Number from n suffix decimal) env ns = tt
  expression_plain (Char from n) env ns = tt
  expression_plain (Text from bytes) env ns = tt
  expression_plain (Binary from s a b) env ns =
      holds_then PlainTyped PlainTyped (expression a env) _ (expression_plain a env ns) (λ c h. holds_then PlainTyped PlainTyped (expression b env) _ (expression_plain b env ns)
      (λ d k. typed_value (binary (extents env) from s (value_of c) (value_of d)) (binary_plain (extents env) from s (value_of c) (value_of d) (value_plain c h) (value_plain d k))))
  expression_plain (Assign from s a b) env ns =
      holds_then PlainTyped PlainTyped (expression a env) _ (expression_plain a env ns) (λ c h. holds_then PlainTyped PlainTyped (expression b env) _ (expression_plain b env ns)
      (λ d k. typed_value (assignment (extents env) from s c (value_of d)) (holds_then PlainObject PlainValue (left_object from c) _ (left_plain from c h) (λ o j. assignment_plain (extents env) from (operator_in s) o (value_of d) j (value_plain d k)))))
  expression_plain (Cond from a b c) env ns =
      holds_then PlainTyped PlainTyped (expression a env) _ (expression_plain a env ns) (λ d h. holds_then PlainTyped PlainTyped (expression b env) _ (expression_plain b env ns)
      (λ e k. holds_then PlainTyped PlainTyped (expression c env) _ (expression_plain c env ns)
      (λ f j. typed_value (choice from (value_of d) (value_of e) (value_of f)) (choice_plain from (value_of d) (value_of e) (value_of f) (value_plain d h) (value_plain e k) (value_plain f j)))))
  expression_plain (Prefix from s a) env ns = holds_then PlainTyped PlainTyped (expression a env) _ (expression_plain a env ns) (λ c h. prefixed_plain (extents env) from s c h)
  expression_plain (Postfix from s a) env ns = holds_then PlainTyped PlainTyped (expression a env) _ (expression_plain a env ns) (λ c h. postfixed_plain (extents env) from s c h)
  expression_plain (SizeofExpr from a) env ns = holds_on PlainTyped (expression a env) _ (λ c. holds_after PlainTyped (unevaluated c) (keep from 15 (is_complete (extents env) (typed_type c)) >> constant U64 (pos (size_in (extents env) (typed_type c)))) (holds_after PlainTyped (keep from 15 (is_complete (extents env) (typed_type c))) (constant U64 (pos (size_in (extents env) (typed_type c)))) tt))
  expression_plain (SizeofType from d) env ns = holds_on PlainTyped (declared_type d env) _ (λ t. holds_after PlainTyped (keep from 15 (is_complete (extents env) t)) (constant U64 (pos (size_in (extents env) t))) tt)
  expression_plain (Cast from d a) env ns =
      holds_on PlainTyped (declared_type d env) _ (λ t. holds_then PlainTyped PlainTyped (expression a env) _ (expression_plain a env ns) (λ c h. typed_value (cast from t (value_of c)) (holds_after PlainValue (keep from 7 (can_cast t (value_type (value_of c)))) (Fine (Convert t (value_of c))) (value_plain c h))))
  expression_plain (Index from a b) env ns =
      holds_then PlainTyped PlainTyped (expression a env) _ (expression_plain a env ns) (λ c h. holds_then PlainTyped PlainTyped (expression b env) _ (expression_plain b env ns)
      (λ d k. subscript_plain (extents env) from (value_of c) (value_of d) (value_type (value_of c)) (value_type (value_of d)) (value_plain c h) (value_plain d k)))
  expression_plain (Call from a es) env ns =
      holds_then TakesAll PlainTyped (elim (builtin_in env a) [ Some f ↦ builtin_called (start_of a) f | None ↦ expression a env >>= called from ]) _ (callee_takes from (start_of a) (builtin_in env a) (expression a env) (expression_plain a env ns))
      (λ f h. holds_then (Passes f.2) PlainTyped (arguments es env from f.2) _ (arguments_pass es env from f.2 ns)
      (λ vs k. (h.0, k.0, h.1 vs k.1)))
  expression_plain (Member from a name) env ns = holds_then PlainTyped PlainTyped (expression a env) _ (expression_plain a env ns) (λ c h. named_member_plain env from c name h)
  expression_plain (Arrow from a name) env ns = holds_then PlainTyped PlainTyped (expression a env) _ (expression_plain a env ns) (λ c h. arrow_plain env from (value_of c) (value_type (value_of c)) name (value_plain c h))

  arguments_pass : (es : Exprs) (env : Environment) (from : ℕ) (ts : CTypes) → NamesAre env → Holds (Passes ts) (arguments es env from ts)
  arguments_pass NoExprs env from NoTypes ns = (tt, tt)
  arguments_pass NoExprs env from (MoreTypes t ts) ns = tt
  arguments_pass (MoreExprs a es) env from NoTypes ns = tt
  arguments_pass (MoreExprs a es) env from (MoreTypes t ts) ns =
      holds_then PlainTyped (Passes (MoreTypes t ts)) (expression a env) _ (expression_plain a env ns)
      (λ c h. holds_then (Argument t) (Passes (MoreTypes t ts)) (assigned (start_of a) t (value_of c)) _ (assigned_passes (start_of a) t (value_of c) (value_plain c h))
      (λ v k. holds_then (Passes ts) (Passes (MoreTypes t ts)) (arguments es env from ts) _ (arguments_pass es env from ts ns) (λ vs j. ((k.0, j.0), (k.1, j.1)))))

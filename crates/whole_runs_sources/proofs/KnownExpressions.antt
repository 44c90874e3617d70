-- A typed expression names globals that are declared and strings that stand in the source.
use Rattle.std.proofs.Common.{◌≡◌, ℕ, zero, suc, ◌≤◌, ◌<◌, Bool, true, false, cond, eqb, ◌&&◌, List, [], ◌∷◌, ◌++◌, length, Option, Some, None, refl, sym, ap, ◌∙◌, arith}
use Rattle.std.specs.Prelude.{pos, slice_index_or}
use Rattle.r2_num.specs.declared.kinds.IntKind.{IntKind}
use Rattle.r2_num.specs.declared.kinds.IntKind.TheVariants.{I64, U64}
use Rattle.r2_num.specs.declared.operations.Op.{Op}
use Rattle.r2_num.specs.declared.operations.Op.TheVariants.{Add, Sub, Mul, Div, Rem, Shl, Shr, And, Or, Xor, Eq, Ne, Lt, Le, Gt, Ge}
use Rattle.c_lexer.specs.declared.token.Sign.{Sign}
use Rattle.c_lexer.specs.declared.token.Sign.TheVariants as signs
use Rattle.c_syntax.specs.Syntax.{Expr, Exprs, Name, Number, Char, Text, Binary, Assign, Cond, Prefix, Postfix, SizeofExpr, SizeofType, Cast, Index, Call, Member, Arrow, NoExprs, MoreExprs}
use Rattle.c_types_model.specs.Types.{CType, CTypes, Void, Integer, PointerTo, ArrayOf, StructOf, UndefinedStruct, FunctionOf, NoTypes, MoreTypes}
use Rattle.c_types_model.specs.declared.extent.Extent.{Extent}
use Rattle.c_builtins.specs.declared.builtin.Builtin.{Builtin}
use Rattle.c_builtins.specs.Table.{prototype_of}
use Rattle.c_scopes.specs.Scopes.{meaning_of}
use Rattle.c_types_rules.specs.Checked.{Checked, Fine, keep, need, unevaluated, ◌>>=◌, ◌>>◌}
use Rattle.c_types_rules.specs.TypeTests.{is_complete, is_integer, is_scalar, same_type}
use Rattle.c_types_rules.specs.Constants.{is_null}
use Rattle.c_types_rules.specs.TypedTree.{Object, Value, Values, Callee, Typed, Sum, PointerPlus, PlusPointer, PointerMinus, Way, Given, Up, Down, New, Old, Both, Either, Choice, SourceFunction, BuiltinFunction, Through, AnObject, AFunction, AValue, Convert, PointerSum, PointerDifference, PointerComparison, Moved, Stepped, MemberOf, Pointed, Element, typed_type, object_type, value_type, read_as, address_of_callee, value_of}
use Rattle.c_types_rules.specs.Operators.{arithmetic, shift, pointer_sum, sum_of, difference_of, comparison_of, logical, binary, signed_operand, assigned, left_object, changed, moved, compound_of, assignment_of, operator_in, assignment, step_of, step, pointers_chosen, unlike_chosen, is_settled, choice, cast, can_cast, integer_kind, scalar, are_comparable, fits, size_in, to_kind, rule_of_right}
use Rattle.c_types_rules.specs.Environment.{Environment, Meaning, FunctionNamed, GlobalNamed, LocalNamed, builtin_of, extents}
use Rattle.c_types_rules.specs.Expressions.{expression, arguments, declared_type, meant, unknown_name, member, member_of, arrow_of, pointed_of, element, subscript_of, address, a_value, prefixed, postfixed, function_type, called_value, called, builtin_called, builtin_in, constant, member_in, start_of}
use Rattle.std.proofs.lemmas.Bool.{eq-eqb}
use Rattle.std.specs.List.{AllByRecursion, Contains}
use Rattle.c_semantics.specs.Context.{order_of}
use Rattle.c_lower_laws.proofs.Held.{Holds, holds_then, holds_on, holds_after}
use Rattle.c_lower.specs.Named.{Name as NameOf, FunctionName, GlobalName, TextName, callee_names, object_names, value_names, values_names}
use Rattle.whole_runs_sources.proofs.Strings.{HasExpr, HasExprs}

-- a global among so many, or a string among so many; of functions nothing is said
abbrev pub IsKnown : (globals strings : ℕ) → NameOf → Type 0
IsKnown globals strings (FunctionName f) = Unit {0}
IsKnown globals strings (GlobalName g) = g < globals
IsKnown globals strings (TextName n) = n < strings

-- so are all of these
pub record AreKnown (globals strings : ℕ) (ns : List NameOf) : Type 0 where
  pub all : AllByRecursion (IsKnown globals strings) ns

both_all : {A : Type 0} (P : A → Type 0) (xs ys : List A) → AllByRecursion P xs → AllByRecursion P ys → AllByRecursion P (xs ++ ys)
both_all P [] ys h k = k
both_all P (x ∷ xs) ys h k = (h.0, both_all P xs ys h.1 k)

first_all : {A : Type 0} (P : A → Type 0) (xs ys : List A) → AllByRecursion P (xs ++ ys) → AllByRecursion P xs
first_all P [] ys h = tt
first_all P (x ∷ xs) ys h = (h.0, first_all P xs ys h.1)

second_all : {A : Type 0} (P : A → Type 0) (xs ys : List A) → AllByRecursion P (xs ++ ys) → AllByRecursion P ys
second_all P [] ys h = h
second_all P (x ∷ xs) ys h = second_all P xs ys h.1

same_eqb : (n : ℕ) → eqb n n ≡ true
same_eqb n = eq-eqb n n refl

-- among more globals
pub more_known : (few many strings : ℕ) (ns : List NameOf) → few ≤ many → AreKnown few strings ns → AreKnown many strings ns
more_known few many strings ns le h = record { all = go ns h.all }
  where
    one : (n : NameOf) → IsKnown few strings n → IsKnown many strings n
    one (FunctionName f) k = tt
    one (GlobalName g) k = omega (arith, k, le)
    one (TextName m) k = k

    go : (xs : List NameOf) → AllByRecursion (IsKnown few strings) xs → AllByRecursion (IsKnown many strings) xs
    go [] k = tt
    go (x ∷ xs) k = (one x k.0, go xs k.1)

-- a string that stands at an offset has its place among those
order_below : (from : ℕ) (xs : List ℕ) → Contains xs from → order_of from xs < length xs
order_below from [] h = absurd (omega (arith, h.1))
order_below from (x ∷ xs) h = by (eqb from x) refl h (λ i l is. order_below from xs (i, l, is))
  where
    by : (b : Bool) → eqb from x ≡ b → Contains (x ∷ xs) from → ((i : ℕ) → i < length xs → slice_index_or xs i from ≡ from → order_of from xs < length xs) → cond b 0 (suc (order_of from xs)) < suc (length xs)
    by true e k rest = omega arith
    by false e (zero, l, is) rest = absurd (let same : eqb from x ≡ true = ap (λ n. eqb from n) is ∙ same_eqb from in let bad : false ≡ true = sym e ∙ same in cc)
    by false e (suc i, l, is) rest = let low = rest i (omega (arith, l)) is in omega (arith, low)

module _ (G : ℕ) (T : List ℕ) where
  abbrev pub All : List NameOf → Type 0
  All ns = AreKnown G (length T) ns

  pub none : All []
  none = record { all = tt }

  pub pair : {ns os : List NameOf} → All ns → All os → All (ns ++ os)
  pair {ns} {os} h k = record { all = both_all (IsKnown G (length T)) ns os h.all k.all }

  pub left : (ns os : List NameOf) → All (ns ++ os) → All ns
  left ns os h = record { all = first_all (IsKnown G (length T)) ns os h.all }

  pub right : (ns os : List NameOf) → All (ns ++ os) → All os
  right ns os h = record { all = second_all (IsKnown G (length T)) ns os h.all }

  -- each global that is named is one of those
  abbrev pub NamesAre : Environment → Type 0
  NamesAre env = (name : List ℕ) (place : ℕ) (t : CType) → meaning_of name env.scopes ≡ Some (GlobalNamed place t) → place < G

  abbrev pub KnownValue : Value → Type 0
  KnownValue v = All (value_names T v)

  abbrev pub KnownObject : Object → Type 0
  KnownObject o = All (object_names T o)

  abbrev CalleeIs : Callee → Type 0
  CalleeIs f = All (callee_names T f)

  abbrev pub KnownTyped : Typed → Type 0
  KnownTyped (AnObject o) = KnownObject o
  KnownTyped (AFunction f t) = CalleeIs f
  KnownTyped (AValue v) = KnownValue v

  read_known : (o : Object) (t : CType) → KnownObject o → KnownValue (read_as o t)
  read_known o (ArrayOf n t) h = h
  read_known o Void h = h
  read_known o (Integer k) h = h
  read_known o (PointerTo t) h = h
  read_known o (StructOf n) h = h
  read_known o (UndefinedStruct tag) h = h
  read_known o (FunctionOf r ps) h = h

  address_known : (f : Callee) (t : CType) → CalleeIs f → KnownValue (address_of_callee f t)
  address_known (SourceFunction at number) t h = h
  address_known (BuiltinFunction at b) t h = record { all = (tt, tt) }
  address_known (Through v) t h = h

  pub value_known : (a : Typed) → KnownTyped a → KnownValue (value_of a)
  value_known (AnObject o) h = read_known o (object_type o) h
  value_known (AFunction f t) h = address_known f t h
  value_known (AValue v) h = h

  -- ---- operators

  arithmetic_known : (from : ℕ) (op : Op) (a b : Value) → KnownValue a → KnownValue b → Holds KnownValue (arithmetic from op a b)
  arithmetic_known from op a b h k = holds_on KnownValue (integer_kind from a) _ (λ i. holds_on KnownValue (integer_kind from b) _ (λ j. (pair h k)))

  shift_known : (from : ℕ) (op : Op) (a b : Value) → KnownValue a → KnownValue b → Holds KnownValue (shift from op a b)
  shift_known from op a b h k = holds_on KnownValue (integer_kind from a) _ (λ i. holds_on KnownValue (integer_kind from b) _ (λ j. (pair h k)))

  pointer_sum_known : (structs : List Extent) (from rule : ℕ) (s : Sum) (t : CType) (p i : Value) → KnownValue p → KnownValue i → Holds KnownValue (pointer_sum structs from rule s t p i)
  pointer_sum_known structs from rule s t p i h k = holds_after KnownValue (keep from rule (is_complete structs t)) (keep from rule (is_integer (value_type i)) >> Fine (PointerSum s p (to_kind I64 i) (size_in structs t)))
      (holds_after KnownValue (keep from rule (is_integer (value_type i))) (Fine (PointerSum s p (to_kind I64 i) (size_in structs t))) (pair h k))

  sum_known : (structs : List Extent) (from : ℕ) (a b : Value) (t u : CType) → KnownValue a → KnownValue b → Holds KnownValue (sum_of structs from a b t u)
  sum_known structs from a b (PointerTo t) u h k = pointer_sum_known structs from 5 PointerPlus t a b h k
  sum_known structs from a b t (PointerTo u) h k = pointer_sum_known structs from 5 PlusPointer u b a k h
  sum_known structs from a b t u h k = arithmetic_known from Add a b h k

  difference_known : (structs : List Extent) (from : ℕ) (a b : Value) (t u : CType) → KnownValue a → KnownValue b → Holds KnownValue (difference_of structs from a b t u)
  difference_known structs from a b (PointerTo t) (PointerTo u) h k = holds_after KnownValue (keep from 5 (same_type t u && is_complete structs t)) (Fine (PointerDifference a b (size_in structs t))) (pair h k)
  difference_known structs from a b (PointerTo t) u h k = pointer_sum_known structs from 5 PointerMinus t a b h k
  difference_known structs from a b t u h k = arithmetic_known from Sub a b h k

  comparison_known : (from : ℕ) (op : Op) (a b : Value) (t u : CType) → KnownValue a → KnownValue b → Holds KnownValue (comparison_of from op a b t u)
  comparison_known from op a b (PointerTo t) (PointerTo u) h k = holds_after KnownValue (keep from 5 (are_comparable t u)) (Fine (PointerComparison op a b)) (pair h k)
  comparison_known from op a b (PointerTo t) u h k = holds_after KnownValue (keep from 5 (is_null b)) (Fine (PointerComparison op a (Convert (PointerTo t) b))) (pair h k)
  comparison_known from op a b t (PointerTo u) h k = holds_after KnownValue (keep from 5 (is_null a)) (Fine (PointerComparison op (Convert (PointerTo u) a) b)) (pair h k)
  comparison_known from op a b t u h k = arithmetic_known from op a b h k

  both_known : (from : ℕ) (a b : Value) → KnownValue a → KnownValue b → Holds KnownValue (logical from Both a b)
  both_known from a b h k = holds_after KnownValue (scalar from a) _ (holds_after KnownValue (scalar from b) _ (pair h k))

  either_known : (from : ℕ) (a b : Value) → KnownValue a → KnownValue b → Holds KnownValue (logical from Either a b)
  either_known from a b h k = holds_after KnownValue (scalar from a) _ (holds_after KnownValue (scalar from b) _ (pair h k))

  binary_known : (structs : List Extent) (from : ℕ) (s : Sign) (a b : Value) → KnownValue a → KnownValue b → Holds KnownValue (binary structs from s a b)
  binary_known structs from signs.Comma a b h k = pair h k
  binary_known structs from signs.OrOr a b h k = either_known from a b h k
  binary_known structs from signs.AndAnd a b h k = both_known from a b h k
  binary_known structs from signs.Bar a b h k = arithmetic_known from Or a b h k
  binary_known structs from signs.Caret a b h k = arithmetic_known from Xor a b h k
  binary_known structs from signs.Ampersand a b h k = arithmetic_known from And a b h k
  binary_known structs from signs.Equal a b h k = comparison_known from Eq a b (value_type a) (value_type b) h k
  binary_known structs from signs.NotEqual a b h k = comparison_known from Ne a b (value_type a) (value_type b) h k
  binary_known structs from signs.Less a b h k = comparison_known from Lt a b (value_type a) (value_type b) h k
  binary_known structs from signs.Greater a b h k = comparison_known from Gt a b (value_type a) (value_type b) h k
  binary_known structs from signs.LessEqual a b h k = comparison_known from Le a b (value_type a) (value_type b) h k
  binary_known structs from signs.GreaterEqual a b h k = comparison_known from Ge a b (value_type a) (value_type b) h k
  binary_known structs from signs.ShiftLeft a b h k = shift_known from Shl a b h k
  binary_known structs from signs.ShiftRight a b h k = shift_known from Shr a b h k
  binary_known structs from signs.Plus a b h k = sum_known structs from a b (value_type a) (value_type b) h k
  binary_known structs from signs.Minus a b h k = difference_known structs from a b (value_type a) (value_type b) h k
  binary_known structs from signs.Star a b h k = arithmetic_known from Mul a b h k
  binary_known structs from signs.Slash a b h k = arithmetic_known from Div a b h k
  binary_known structs from signs.Percent a b h k = arithmetic_known from Rem a b h k
  binary_known structs from s a b h k = tt

  signed_known : (from : ℕ) (s : Sign) (v : Value) → KnownValue v → Holds KnownValue (signed_operand from s v)
  signed_known from signs.Plus v h = holds_on KnownValue (integer_kind from v) _ (λ k. h)
  signed_known from signs.Minus v h = holds_on KnownValue (integer_kind from v) _ (λ k. h)
  signed_known from signs.Tilde v h = holds_on KnownValue (integer_kind from v) _ (λ k. h)
  signed_known from signs.Exclamation v h = holds_after KnownValue (scalar from v) _ h
  signed_known from s v h = tt

  pub assigned_known : (from : ℕ) (t : CType) (v : Value) → KnownValue v → Holds KnownValue (assigned from t v)
  assigned_known from t v h = holds_after KnownValue (keep from 6 (fits t (value_type v) v)) (Fine (Convert t v)) h

  left_known : (from : ℕ) (a : Typed) → KnownTyped a → Holds KnownObject (left_object from a)
  left_known from (AnObject o) h = holds_after KnownObject (keep from 8 (is_scalar (object_type o))) (Fine o) h
  left_known from (AFunction f t) h = tt
  left_known from (AValue v) h = tt

  changed_known : (from : ℕ) (op : Op) (o : Object) (j : IntKind) (b : Value) → KnownObject o → KnownValue b → Holds KnownValue (changed from op o j b)
  changed_known from Shl o j b h k = holds_on KnownValue (integer_kind from b) _ (λ i. (pair h k))
  changed_known from Shr o j b h k = holds_on KnownValue (integer_kind from b) _ (λ i. (pair h k))
  changed_known from op o j b h k = holds_on KnownValue (integer_kind from b) _ (λ i. (pair h k))

  moved_known : (structs : List Extent) (from : ℕ) (w : Way) (o : Object) (t : CType) (i : Value) → KnownObject o → KnownValue i → Holds KnownValue (moved structs from w o t i)
  moved_known structs from w o t i h k =
      holds_after KnownValue (keep from 5 (is_complete structs t)) (keep from 5 (is_integer (value_type i)) >> Fine (Moved o w (to_kind I64 i) (size_in structs t)))
      (holds_after KnownValue (keep from 5 (is_integer (value_type i))) (Fine (Moved o w (to_kind I64 i) (size_in structs t))) (pair h k))

  compound_known : (structs : List Extent) (from : ℕ) (op : Op) (o : Object) (t : CType) (b : Value) → KnownObject o → KnownValue b → Holds KnownValue (compound_of structs from op o t b)
  compound_known structs from op o (Integer j) b h k = changed_known from op o j b h k
  compound_known structs from Add o (PointerTo t) b h k = moved_known structs from Up o t b h k
  compound_known structs from Sub o (PointerTo t) b h k = moved_known structs from Down o t b h k
  compound_known structs from op o t b h k = tt

  assignment_known : (structs : List Extent) (from : ℕ) (op : Option Op) (o : Object) (b : Value) → KnownObject o → KnownValue b → Holds KnownValue (assignment_of structs from op o b)
  assignment_known structs from None o b h k = holds_then KnownValue KnownValue (assigned from (object_type o) b) _ (assigned_known from (object_type o) b k) (λ v j. (pair h j))
  assignment_known structs from (Some op) o b h k = holds_after KnownValue (keep from (rule_of_right structs op (object_type o) (value_type b)) (is_integer (value_type b))) _ (compound_known structs from op o (object_type o) b h k)

  stepped_known : (structs : List Extent) (from : ℕ) (w : Way) (g : Given) (o : Object) (t : CType) → KnownObject o → Holds KnownValue (step_of structs from w g o t)
  stepped_known structs from w g o (Integer k) h = h
  stepped_known structs from w g o (PointerTo t) h = holds_after KnownValue (keep from 8 (is_complete structs t)) (Fine (Stepped o w g (size_in structs t))) h
  stepped_known structs from w g o t h = tt

  step_known : (structs : List Extent) (from : ℕ) (w : Way) (g : Given) (a : Typed) → KnownTyped a → Holds KnownValue (step structs from w g a)
  step_known structs from w g (AnObject o) h = stepped_known structs from w g o (object_type o) h
  step_known structs from w g (AFunction f t) h = tt
  step_known structs from w g (AValue v) h = tt

  pointers_known : (from : ℕ) (c a b : Value) (t u : CType) → KnownValue c → KnownValue a → KnownValue b → Holds KnownValue (pointers_chosen from c a b t u)
  pointers_known from c a b Void u h k j = pair h (pair k j)
  pointers_known from c a b t Void h k j = pair h (pair k j)
  pointers_known from c a b t u h k j = tt

  unlike_known : (from : ℕ) (c a b : Value) (t u : CType) → KnownValue c → KnownValue a → KnownValue b → Holds KnownValue (unlike_chosen from c a b t u)
  unlike_known from c a b (Integer m) (Integer n) h k j = pair h (pair k j)
  unlike_known from c a b (PointerTo t) (PointerTo u) h k j = pointers_known from c a b t u h k j
  unlike_known from c a b (PointerTo t) u h k j = holds_after KnownValue (keep from 20 (is_null b)) (Fine (Choice c a (Convert (PointerTo t) b))) (pair h (pair k j))
  unlike_known from c a b t (PointerTo u) h k j = holds_after KnownValue (keep from 20 (is_null a)) (Fine (Choice c (Convert (PointerTo u) a) b)) (pair h (pair k j))
  unlike_known from c a b t u h k j = tt

  choice_known : (from : ℕ) (c a b : Value) → KnownValue c → KnownValue a → KnownValue b → Holds KnownValue (choice from c a b)
  choice_known from c a b h k j = holds_after KnownValue (scalar from c) _ (by (is_settled (value_type a) (value_type b)))
    where
      by : (settled : Bool) → Holds KnownValue (cond settled (Fine (Choice c a b)) (unlike_chosen from c a b (value_type a) (value_type b)))
      by true = pair h (pair k j)
      by false = unlike_known from c a b (value_type a) (value_type b) h k j

  -- ---- expressions

  typed_value : (c : Checked Value) → Holds KnownValue c → Holds KnownTyped (a_value c)
  typed_value c h = holds_then KnownValue KnownTyped c _ h (λ v k. k)

  meant_known : (from : ℕ) (name : List ℕ) (m : Option Meaning) → ((place : ℕ) (t : CType) → m ≡ Some (GlobalNamed place t) → place < G) → Holds KnownTyped (meant from name m)
  meant_known from name (Some (FunctionNamed number t)) h = record { all = (tt, tt) }
  meant_known from name (Some (GlobalNamed place t)) h = record { all = (h place t refl, tt) }
  meant_known from name (Some (LocalNamed place t)) h = none
  meant_known from name None h = by (builtin_of name)
    where
      by : (b : Option Builtin) → Holds KnownTyped (unknown_name from b)
      by (Some b) = tt
      by None = tt

  member_known : (env : Environment) (from : ℕ) (o : Object) (t : CType) (name : List ℕ) → KnownObject o → Holds KnownTyped (member_of env from o t name)
  member_known env from o (StructOf number) name h = holds_on KnownTyped (need from 13 (member_in env.structs number name)) (λ m. Fine (AnObject (MemberOf o m.0 m.1))) (λ m. h)
  member_known env from o t name h = tt

  named_member_known : (env : Environment) (from : ℕ) (a : Typed) (name : List ℕ) → KnownTyped a → Holds KnownTyped (member env from a name)
  named_member_known env from (AnObject o) name h = member_known env from o (object_type o) name h
  named_member_known env from (AFunction f t) name h = tt
  named_member_known env from (AValue v) name h = tt

  arrow_known : (env : Environment) (from : ℕ) (v : Value) (t : CType) (name : List ℕ) → KnownValue v → Holds KnownTyped (arrow_of env from v t name)
  arrow_known env from v (PointerTo (UndefinedStruct tag)) name h = tt
  arrow_known env from v (PointerTo (StructOf number)) name h = holds_after KnownTyped (keep from 2 (is_complete (extents env) (StructOf number))) (member_of env from (Pointed v (StructOf number)) (StructOf number) name)
      (member_known env from (Pointed v (StructOf number)) (StructOf number) name h)
  arrow_known env from v t name h = tt

  pointed_known : (structs : List Extent) (from : ℕ) (v : Value) (t : CType) → value_type v ≡ t → KnownValue v → Holds KnownTyped (pointed_of structs from v t)
  pointed_known structs from v (PointerTo (FunctionOf r ps)) e h = h
  pointed_known structs from v (PointerTo t) e h = holds_after KnownTyped (keep from 14 (is_complete structs t)) (Fine (AnObject (Pointed v t))) h
  pointed_known structs from v t e h = tt

  element_known : (structs : List Extent) (from : ℕ) (s : Sum) (t : CType) (p i : Value) → KnownValue p → KnownValue i → Holds KnownTyped (element structs from s t p i)
  element_known structs from s t p i h k =
      holds_after KnownTyped (keep from 14 (is_complete structs t)) (keep from 14 (is_integer (value_type i)) >> Fine (AnObject (Element s p (to_kind I64 i) t)))
      (holds_after KnownTyped (keep from 14 (is_integer (value_type i))) (Fine (AnObject (Element s p (to_kind I64 i) t))) (pair h k))

  subscript_known : (structs : List Extent) (from : ℕ) (a b : Value) (t u : CType) → KnownValue a → KnownValue b → Holds KnownTyped (subscript_of structs from a b t u)
  subscript_known structs from a b (PointerTo t) u h k = element_known structs from PointerPlus t a b h k
  subscript_known structs from a b t (PointerTo u) h k = element_known structs from PlusPointer u b a k h
  subscript_known structs from a b t u h k = tt

  taken_known : (from : ℕ) (a : Typed) → KnownTyped a → Holds KnownTyped (address from a)
  taken_known from (AnObject o) h = h
  taken_known from (AFunction f t) h = address_known f t h
  taken_known from (AValue v) h = tt

  prefixed_known : (structs : List Extent) (from : ℕ) (s : Sign) (a : Typed) → KnownTyped a → Holds KnownTyped (prefixed structs from s a)
  prefixed_known structs from signs.Increment a h = typed_value (step structs from Up New a) (step_known structs from Up New a h)
  prefixed_known structs from signs.Decrement a h = typed_value (step structs from Down New a) (step_known structs from Down New a h)
  prefixed_known structs from signs.Ampersand a h = taken_known from a h
  prefixed_known structs from signs.Star a h = pointed_known structs from (value_of a) (value_type (value_of a)) refl (value_known a h)
  prefixed_known structs from s a h = typed_value (signed_operand from s (value_of a)) (signed_known from s (value_of a) (value_known a h))

  postfixed_known : (structs : List Extent) (from : ℕ) (s : Sign) (a : Typed) → KnownTyped a → Holds KnownTyped (postfixed structs from s a)
  postfixed_known structs from signs.Increment a h = typed_value (step structs from Up Old a) (step_known structs from Up Old a h)
  postfixed_known structs from signs.Decrement a h = typed_value (step structs from Down Old a) (step_known structs from Down Old a h)
  postfixed_known structs from s a h = tt

  -- ---- calls

  abbrev pub Takes : Callee × CType × CTypes → Type 0
  Takes f = CalleeIs f.0

  function_takes : (from : ℕ) (f : Callee) (t : CType) → CalleeIs f → Holds Takes (function_type from t >>= (λ g. Fine (f, g.0, g.1)))
  function_takes from f (FunctionOf r ps) h = h
  function_takes from f Void h = tt
  function_takes from f (Integer k) h = tt
  function_takes from f (PointerTo t) h = tt
  function_takes from f (ArrayOf n t) h = tt
  function_takes from f (StructOf n) h = tt
  function_takes from f (UndefinedStruct tag) h = tt

  pointer_takes : (from : ℕ) (v : Value) (t : CType) → value_type v ≡ t → KnownValue v → Holds Takes (called_value from v t)
  pointer_takes from v (PointerTo t) e h = function_takes from (Through v) t h
  pointer_takes from v Void e h = tt
  pointer_takes from v (Integer k) e h = tt
  pointer_takes from v (ArrayOf n t) e h = tt
  pointer_takes from v (StructOf n) e h = tt
  pointer_takes from v (UndefinedStruct tag) e h = tt
  pointer_takes from v (FunctionOf r ps) e h = tt

  called_takes : (from : ℕ) (a : Typed) → KnownTyped a → Holds Takes (called from a)
  called_takes from (AFunction f t) h = function_takes from f t h
  called_takes from (AnObject o) h = pointer_takes from (value_of (AnObject o)) (value_type (value_of (AnObject o))) refl (value_known (AnObject o) h)
  called_takes from (AValue v) h = pointer_takes from v (value_type v) refl h

  callee_takes : (from at : ℕ) (b : Option Builtin) (c : Checked Typed) → Holds KnownTyped c → Holds Takes (elim b [ Some f ↦ builtin_called at f | None ↦ c >>= called from ])
  callee_takes from at (Some f) c h = function_takes at (BuiltinFunction at f) (prototype_of f) (record { all = (tt, tt) })
  callee_takes from at None c h = holds_then KnownTyped Takes c (called from) h (called_takes from)

  abbrev pub Passes : Values → Type 0
  Passes vs = All (values_names T vs)

  mutual
    pub expression_known : (e : Expr) (env : Environment) → NamesAre env → HasExpr T e → Holds KnownTyped (expression e env)
    expression_known (Name from name) env ns x = meant_known from name (meaning_of name env.scopes) (ns name)
    expression_known (Number from n suffix decimal) env ns x = none
    expression_known (Char from n) env ns x = none
    expression_known (Text from bytes) env ns x = record { all = (order_below from T x, tt) }
    expression_known (Binary from s a b) env ns x =
        holds_then KnownTyped KnownTyped (expression a env) _ (expression_known a env ns x.0) (λ c h. holds_then KnownTyped KnownTyped (expression b env) _ (expression_known b env ns x.1)
        (λ d k. typed_value (binary (extents env) from s (value_of c) (value_of d)) (binary_known (extents env) from s (value_of c) (value_of d) (value_known c h) (value_known d k))))
    expression_known (Assign from s a b) env ns x =
        holds_then KnownTyped KnownTyped (expression a env) _ (expression_known a env ns x.0) (λ c h. holds_then KnownTyped KnownTyped (expression b env) _ (expression_known b env ns x.1)
        (λ d k. typed_value (assignment (extents env) from s c (value_of d)) (holds_then KnownObject KnownValue (left_object from c) _ (left_known from c h) (λ o j. assignment_known (extents env) from (operator_in s) o (value_of d) j (value_known d k)))))
    expression_known (Cond from a b c) env ns x =
        holds_then KnownTyped KnownTyped (expression a env) _ (expression_known a env ns x.0) (λ d h. holds_then KnownTyped KnownTyped (expression b env) _ (expression_known b env ns x.1)
        (λ e k. holds_then KnownTyped KnownTyped (expression c env) _ (expression_known c env ns x.2)
        (λ f j. typed_value (choice from (value_of d) (value_of e) (value_of f)) (choice_known from (value_of d) (value_of e) (value_of f) (value_known d h) (value_known e k) (value_known f j)))))
    expression_known (Prefix from s a) env ns x = holds_then KnownTyped KnownTyped (expression a env) _ (expression_known a env ns x) (λ c h. prefixed_known (extents env) from s c h)
    expression_known (Postfix from s a) env ns x = holds_then KnownTyped KnownTyped (expression a env) _ (expression_known a env ns x) (λ c h. postfixed_known (extents env) from s c h)
    expression_known (SizeofExpr from a) env ns x = holds_on KnownTyped (expression a env) _ (λ c. holds_after KnownTyped (unevaluated c) (keep from 15 (is_complete (extents env) (typed_type c)) >> constant U64 (pos (size_in (extents env) (typed_type c)))) (holds_after KnownTyped (keep from 15 (is_complete (extents env) (typed_type c))) (constant U64 (pos (size_in (extents env) (typed_type c)))) none))
    expression_known (SizeofType from d) env ns x = holds_on KnownTyped (declared_type d env) _ (λ t. holds_after KnownTyped (keep from 15 (is_complete (extents env) t)) (constant U64 (pos (size_in (extents env) t))) none)
    expression_known (Cast from d a) env ns x =
        holds_on KnownTyped (declared_type d env) _ (λ t. holds_then KnownTyped KnownTyped (expression a env) _ (expression_known a env ns x.1) (λ c h. typed_value (cast from t (value_of c)) (holds_after KnownValue (keep from 7 (can_cast t (value_type (value_of c)))) (Fine (Convert t (value_of c))) (value_known c h))))
    expression_known (Index from a b) env ns x =
        holds_then KnownTyped KnownTyped (expression a env) _ (expression_known a env ns x.0) (λ c h. holds_then KnownTyped KnownTyped (expression b env) _ (expression_known b env ns x.1)
        (λ d k. subscript_known (extents env) from (value_of c) (value_of d) (value_type (value_of c)) (value_type (value_of d)) (value_known c h) (value_known d k)))
    expression_known (Call from a es) env ns x =
        holds_then Takes KnownTyped (elim (builtin_in env a) [ Some f ↦ builtin_called (start_of a) f | None ↦ expression a env >>= called from ]) _ (callee_takes from (start_of a) (builtin_in env a) (expression a env) (expression_known a env ns x.0))
        (λ f h. holds_then Passes KnownTyped (arguments es env from f.2) _ (arguments_pass es env from f.2 ns x.1)
        (λ vs k. pair h k))
    expression_known (Member from a name) env ns x = holds_then KnownTyped KnownTyped (expression a env) _ (expression_known a env ns x) (λ c h. named_member_known env from c name h)
    expression_known (Arrow from a name) env ns x = holds_then KnownTyped KnownTyped (expression a env) _ (expression_known a env ns x) (λ c h. arrow_known env from (value_of c) (value_type (value_of c)) name (value_known c h))

    arguments_pass : (es : Exprs) (env : Environment) (from : ℕ) (ts : CTypes) → NamesAre env → HasExprs T es → Holds Passes (arguments es env from ts)
    arguments_pass NoExprs env from NoTypes ns x = none
    arguments_pass NoExprs env from (MoreTypes t ts) ns x = tt
    arguments_pass (MoreExprs a es) env from NoTypes ns x = tt
    arguments_pass (MoreExprs a es) env from (MoreTypes t ts) ns x =
        holds_then KnownTyped Passes (expression a env) _ (expression_known a env ns x.0)
        (λ c h. holds_then KnownValue Passes (assigned (start_of a) t (value_of c)) _ (assigned_known (start_of a) t (value_of c) (value_known c h))
        (λ v k. holds_then Passes Passes (arguments es env from ts) _ (arguments_pass es env from ts ns x.1) (λ vs j. pair k j)))

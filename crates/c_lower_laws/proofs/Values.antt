-- In a typed expression each call is of what is known, and has one value per parameter, converted to its type.
use Rattle.std.proofs.Common.{◌≡◌, ℕ, suc, ◌+◌, Bool, true, false, cond, ◌&&◌, List, length, Option, Some, None, refl, sym, ap, ◌∙◌, subst}
use Rattle.std.specs.Prelude.{slice_get, pos}
use Rattle.r2_num.specs.declared.kinds.IntKind.{IntKind}
use Rattle.r2_num.specs.declared.kinds.IntKind.TheVariants.{I64, U64}
use Rattle.r2_num.specs.declared.operations.Op.{Op}
use Rattle.r2_num.specs.declared.operations.Op.TheVariants.{Add, Sub, Mul, Div, Rem, Shl, Shr, And, Or, Xor, Eq, Ne, Lt, Le, Gt, Ge}
use Rattle.c_lexer.specs.declared.token.Sign.{Sign}
use Rattle.c_lexer.specs.declared.token.Sign.TheVariants as signs
use Rattle.c_syntax.specs.Syntax.{Expr, Exprs, Name, Number, Char, Text, Binary, Assign, Cond, Prefix, Postfix, SizeofExpr, SizeofType, Cast, Index, Call, Member, Arrow, NoExprs, MoreExprs}
use Rattle.c_code.specs.declared.code.FuncInfo.{FuncInfo}
use Rattle.c_code.specs.Machine.{func_of}
use Rattle.c_types_model.specs.Types.{CType, CTypes, Void, Integer, PointerTo, ArrayOf, StructOf, UndefinedStruct, FunctionOf, NoTypes, MoreTypes}
use Rattle.c_types_model.specs.declared.extent.Extent.{Extent}
use Rattle.c_builtins.specs.declared.builtin.Builtin.{Builtin}
use Rattle.c_builtins.specs.declared.builtin.Builtin.TheVariants.{Malloc, Free, Spawn, Join, Lock, Unlock, Print}
use Rattle.c_builtins.specs.Table.{first_source_function, number_of, prototype_of}
use Rattle.c_scopes.specs.Scopes.{meaning_of}
use Rattle.c_types_rules.specs.Checked.{Checked, Fine, Noted, Broken, keep, need, unevaluated, ◌>>=◌, ◌>>◌}
use Rattle.c_types_rules.specs.TypeTests.{is_complete, is_integer, is_scalar, same_type}
use Rattle.c_types_rules.specs.Constants.{is_null}
use Rattle.c_types_rules.specs.TypedTree.{Object, Value, Values, Callee, Typed, Sum, PointerPlus, PlusPointer, PointerMinus, Way, Given, Up, Down, New, Old, Both, Either, Choice, SourceFunction, BuiltinFunction, Through, AnObject, AFunction, AValue, Convert, PointerSum, PointerDifference, PointerComparison, Moved, Stepped, MemberOf, Pointed, Element, typed_type, object_type, value_type, read_as, address_of_callee, value_of}
use Rattle.c_types_rules.specs.Operators.{arithmetic, shift, pointer_sum, sum_of, difference_of, comparison_of, logical, binary, signed_operand, assigned, left_object, changed, moved, compound_of, assignment_of, operator_in, assignment, step_of, step, pointers_chosen, unlike_chosen, is_settled, choice, cast, can_cast, integer_kind, scalar, are_comparable, fits, size_in, to_kind, rule_of_right}
use Rattle.c_types_rules.specs.Environment.{Environment, Meaning, FunctionNamed, GlobalNamed, LocalNamed, builtin_of, extents}
use Rattle.c_types_rules.specs.Expressions.{expression, arguments, declared_type, meant, unknown_name, member, member_of, arrow_of, pointed_of, element, subscript_of, address, a_value, prefixed, postfixed, function_type, called_value, called, builtin_called, builtin_in, constant, member_in, start_of}
use Rattle.c_types_rules.specs.Limits.{count as types_count}
use Rattle.c_types_rules.specs.Sources.{params_of}
use Rattle.c_semantics.specs.Arguments.{AreConverted, IsKnown, called_type, is_known}
use Rattle.c_semantics.specs.Context.{Source, type_of}
use Rattle.c_semantics.specs.Returned.{IsConverted}
use Rattle.c_semantics.specs.Values.{target}
use Rattle.c_semantics.proofs.TypedReturns.{scalar_fits}
use Rattle.c_lower_laws.proofs.Held.{Holds, holds_then, holds_on, holds_after, holds_both, holds_kept}
use Rattle.c_lower_placement.specs.Code.{Making}
use Rattle.c_lower_placement.specs.Placement.{count}
use Rattle.c_lower_placement.specs.Heights.{ObjectCalls, ValueCalls, ValuesCall, CalleeCalls, Takes}

-- how many parameters a type of functions has
abbrev pub params_count : CType → ℕ
params_count t = types_count (params_of t)

-- the function of a number has this type, where these are the types of a source's functions
abbrev pub IsAt : List CType → (number : ℕ) → CType → Type 0
IsAt us number t = (place : ℕ) × (number ≡ place + first_source_function) × (slice_get us place ≡ Some t)

-- the source knows the function, with this type
pub record IsOf (s : Source) (number : ℕ) (t : CType) : Type 0 where
  pub known : is_known s number ≡ true
  pub type : type_of s number ≡ t

-- what is known of a source and code: the functions with their types; how many values each function of the source, each builtin
-- and each pointer to functions takes
pub record Serves (x : Making) (us : List CType) : Type 0 where
  pub types : (number : ℕ) (t : CType) → IsAt us number t → IsOf x.against.source number t
  pub sources : (number : ℕ) (t : CType) → IsAt us number t → Takes x.against.code number (params_count t)
  pub builtins : (b : Builtin) → Takes x.against.code (number_of b) (params_count (prototype_of b))
  pub pointers : (t : CType) (f : ℕ) (info : FuncInfo) → func_of x.against.code f ≡ Some info → info.sig ≡ x.sig t → length info.params ≡ params_count t

-- each function that is named has its type
abbrev pub NamesAre : List CType → Environment → Type 0
NamesAre us env = (name : List ℕ) (number : ℕ) (t : CType) → meaning_of name env.scopes ≡ Some (FunctionNamed number t) → IsAt us number t

pub builtin_type : (s : Source) (b : Builtin) → type_of s (number_of b) ≡ prototype_of b
builtin_type s Malloc = refl
builtin_type s Free = refl
builtin_type s Spawn = refl
builtin_type s Join = refl
builtin_type s Lock = refl
builtin_type s Unlock = refl
builtin_type s Print = refl

module _ (x : Making) (us : List CType) (serves : Serves x us) where
  abbrev pub Counts : Value → Type 0
  Counts v = ValueCalls v x

  abbrev pub CountsObject : Object → Type 0
  CountsObject o = ObjectCalls o x

  -- what is called has this type
  abbrev pub CalleeIs : Callee → CType → Type 0
  CalleeIs (SourceFunction at number) t = IsAt us number t
  CalleeIs (BuiltinFunction at b) t = prototype_of b ≡ t
  CalleeIs (Through v) t = Counts v × (target (value_type v) ≡ t)

  abbrev pub CountsTyped : Typed → Type 0
  CountsTyped (AnObject o) = CountsObject o
  CountsTyped (AFunction f t) = CalleeIs f t
  CountsTyped (AValue v) = Counts v

  read_counts : (o : Object) (t : CType) → CountsObject o → Counts (read_as o t)
  read_counts o (ArrayOf n t) h = h
  read_counts o Void h = h
  read_counts o (Integer k) h = h
  read_counts o (PointerTo t) h = h
  read_counts o (StructOf n) h = h
  read_counts o (UndefinedStruct tag) h = h
  read_counts o (FunctionOf r ps) h = h

  address_counts : (f : Callee) (t : CType) → CalleeIs f t → Counts (address_of_callee f t)
  address_counts (SourceFunction at number) t h = tt
  address_counts (BuiltinFunction at b) t h = tt
  address_counts (Through v) t h = h.0

  pub value_counts : (a : Typed) → CountsTyped a → Counts (value_of a)
  value_counts (AnObject o) h = read_counts o (object_type o) h
  value_counts (AFunction f t) h = address_counts f t h
  value_counts (AValue v) h = h

  -- ---- operators

  arithmetic_counts : (from : ℕ) (op : Op) (a b : Value) → Counts a → Counts b → Holds Counts (arithmetic from op a b)
  arithmetic_counts from op a b h k = holds_on Counts (integer_kind from a) _ (λ i. holds_on Counts (integer_kind from b) _ (λ j. (h, k)))

  shift_counts : (from : ℕ) (op : Op) (a b : Value) → Counts a → Counts b → Holds Counts (shift from op a b)
  shift_counts from op a b h k = holds_on Counts (integer_kind from a) _ (λ i. holds_on Counts (integer_kind from b) _ (λ j. (h, k)))

  pointer_sum_counts : (structs : List Extent) (from rule : ℕ) (s : Sum) (t : CType) (p i : Value) → Counts p → Counts i → Holds Counts (pointer_sum structs from rule s t p i)
  pointer_sum_counts structs from rule s t p i h k = holds_after Counts (keep from rule (is_complete structs t)) (keep from rule (is_integer (value_type i)) >> Fine (PointerSum s p (to_kind I64 i) (size_in structs t)))
      (holds_after Counts (keep from rule (is_integer (value_type i))) (Fine (PointerSum s p (to_kind I64 i) (size_in structs t))) (h, k))

  sum_counts : (structs : List Extent) (from : ℕ) (a b : Value) (t u : CType) → Counts a → Counts b → Holds Counts (sum_of structs from a b t u)
  sum_counts structs from a b (PointerTo t) u h k = pointer_sum_counts structs from 5 PointerPlus t a b h k
  sum_counts structs from a b t (PointerTo u) h k = pointer_sum_counts structs from 5 PlusPointer u b a k h
  sum_counts structs from a b t u h k = arithmetic_counts from Add a b h k

  difference_counts : (structs : List Extent) (from : ℕ) (a b : Value) (t u : CType) → Counts a → Counts b → Holds Counts (difference_of structs from a b t u)
  difference_counts structs from a b (PointerTo t) (PointerTo u) h k = holds_after Counts (keep from 5 (same_type t u && is_complete structs t)) (Fine (PointerDifference a b (size_in structs t))) (h, k)
  difference_counts structs from a b (PointerTo t) u h k = pointer_sum_counts structs from 5 PointerMinus t a b h k
  difference_counts structs from a b t u h k = arithmetic_counts from Sub a b h k

  comparison_counts : (from : ℕ) (op : Op) (a b : Value) (t u : CType) → Counts a → Counts b → Holds Counts (comparison_of from op a b t u)
  comparison_counts from op a b (PointerTo t) (PointerTo u) h k = holds_after Counts (keep from 5 (are_comparable t u)) (Fine (PointerComparison op a b)) (h, k)
  comparison_counts from op a b (PointerTo t) u h k = holds_after Counts (keep from 5 (is_null b)) (Fine (PointerComparison op a (Convert (PointerTo t) b))) (h, k)
  comparison_counts from op a b t (PointerTo u) h k = holds_after Counts (keep from 5 (is_null a)) (Fine (PointerComparison op (Convert (PointerTo u) a) b)) (h, k)
  comparison_counts from op a b t u h k = arithmetic_counts from op a b h k

  both_counts : (from : ℕ) (a b : Value) → Counts a → Counts b → Holds Counts (logical from Both a b)
  both_counts from a b h k = holds_after Counts (scalar from a) _ (holds_after Counts (scalar from b) _ (h, k))

  either_counts : (from : ℕ) (a b : Value) → Counts a → Counts b → Holds Counts (logical from Either a b)
  either_counts from a b h k = holds_after Counts (scalar from a) _ (holds_after Counts (scalar from b) _ (h, k))

  binary_counts : (structs : List Extent) (from : ℕ) (s : Sign) (a b : Value) → Counts a → Counts b → Holds Counts (binary structs from s a b)
  binary_counts structs from signs.Comma a b h k = (h, k)
  binary_counts structs from signs.OrOr a b h k = either_counts from a b h k
  binary_counts structs from signs.AndAnd a b h k = both_counts from a b h k
  binary_counts structs from signs.Bar a b h k = arithmetic_counts from Or a b h k
  binary_counts structs from signs.Caret a b h k = arithmetic_counts from Xor a b h k
  binary_counts structs from signs.Ampersand a b h k = arithmetic_counts from And a b h k
  binary_counts structs from signs.Equal a b h k = comparison_counts from Eq a b (value_type a) (value_type b) h k
  binary_counts structs from signs.NotEqual a b h k = comparison_counts from Ne a b (value_type a) (value_type b) h k
  binary_counts structs from signs.Less a b h k = comparison_counts from Lt a b (value_type a) (value_type b) h k
  binary_counts structs from signs.Greater a b h k = comparison_counts from Gt a b (value_type a) (value_type b) h k
  binary_counts structs from signs.LessEqual a b h k = comparison_counts from Le a b (value_type a) (value_type b) h k
  binary_counts structs from signs.GreaterEqual a b h k = comparison_counts from Ge a b (value_type a) (value_type b) h k
  binary_counts structs from signs.ShiftLeft a b h k = shift_counts from Shl a b h k
  binary_counts structs from signs.ShiftRight a b h k = shift_counts from Shr a b h k
  binary_counts structs from signs.Plus a b h k = sum_counts structs from a b (value_type a) (value_type b) h k
  binary_counts structs from signs.Minus a b h k = difference_counts structs from a b (value_type a) (value_type b) h k
  binary_counts structs from signs.Star a b h k = arithmetic_counts from Mul a b h k
  binary_counts structs from signs.Slash a b h k = arithmetic_counts from Div a b h k
  binary_counts structs from signs.Percent a b h k = arithmetic_counts from Rem a b h k
  binary_counts structs from s a b h k = tt

  signed_counts : (from : ℕ) (s : Sign) (v : Value) → Counts v → Holds Counts (signed_operand from s v)
  signed_counts from signs.Plus v h = holds_on Counts (integer_kind from v) _ (λ k. h)
  signed_counts from signs.Minus v h = holds_on Counts (integer_kind from v) _ (λ k. h)
  signed_counts from signs.Tilde v h = holds_on Counts (integer_kind from v) _ (λ k. h)
  signed_counts from signs.Exclamation v h = holds_after Counts (scalar from v) _ h
  signed_counts from s v h = tt

  pub assigned_counts : (from : ℕ) (t : CType) (v : Value) → Counts v → Holds Counts (assigned from t v)
  assigned_counts from t v h = holds_after Counts (keep from 6 (fits t (value_type v) v)) (Fine (Convert t v)) h

  assigned_converts : (from : ℕ) (t : CType) (v : Value) → Holds (IsConverted t) (assigned from t v)
  assigned_converts from t v = holds_kept (IsConverted t) from 6 (fits t (value_type v) v) (Fine (Convert t v)) (λ e. (refl, scalar_fits t (value_type v) v e))

  -- an argument
  abbrev pub Argument : CType → Value → Type 0
  Argument t v = Counts v × IsConverted t v

  assigned_passes : (from : ℕ) (t : CType) (v : Value) → Counts v → Holds (Argument t) (assigned from t v)
  assigned_passes from t v h = holds_both Counts (IsConverted t) (assigned from t v) (assigned_counts from t v h) (assigned_converts from t v)

  left_counts : (from : ℕ) (a : Typed) → CountsTyped a → Holds CountsObject (left_object from a)
  left_counts from (AnObject o) h = holds_after CountsObject (keep from 8 (is_scalar (object_type o))) (Fine o) h
  left_counts from (AFunction f t) h = tt
  left_counts from (AValue v) h = tt

  changed_counts : (from : ℕ) (op : Op) (o : Object) (j : IntKind) (b : Value) → CountsObject o → Counts b → Holds Counts (changed from op o j b)
  changed_counts from Shl o j b h k = holds_on Counts (integer_kind from b) _ (λ i. (h, k))
  changed_counts from Shr o j b h k = holds_on Counts (integer_kind from b) _ (λ i. (h, k))
  changed_counts from op o j b h k = holds_on Counts (integer_kind from b) _ (λ i. (h, k))

  moved_counts : (structs : List Extent) (from : ℕ) (w : Way) (o : Object) (t : CType) (i : Value) → CountsObject o → Counts i → Holds Counts (moved structs from w o t i)
  moved_counts structs from w o t i h k =
      holds_after Counts (keep from 5 (is_complete structs t)) (keep from 5 (is_integer (value_type i)) >> Fine (Moved o w (to_kind I64 i) (size_in structs t)))
      (holds_after Counts (keep from 5 (is_integer (value_type i))) (Fine (Moved o w (to_kind I64 i) (size_in structs t))) (h, k))

  compound_counts : (structs : List Extent) (from : ℕ) (op : Op) (o : Object) (t : CType) (b : Value) → CountsObject o → Counts b → Holds Counts (compound_of structs from op o t b)
  compound_counts structs from op o (Integer j) b h k = changed_counts from op o j b h k
  compound_counts structs from Add o (PointerTo t) b h k = moved_counts structs from Up o t b h k
  compound_counts structs from Sub o (PointerTo t) b h k = moved_counts structs from Down o t b h k
  compound_counts structs from op o t b h k = tt

  assignment_counts : (structs : List Extent) (from : ℕ) (op : Option Op) (o : Object) (b : Value) → CountsObject o → Counts b → Holds Counts (assignment_of structs from op o b)
  assignment_counts structs from None o b h k = holds_then Counts Counts (assigned from (object_type o) b) _ (assigned_counts from (object_type o) b k) (λ v j. (h, j))
  assignment_counts structs from (Some op) o b h k = holds_after Counts (keep from (rule_of_right structs op (object_type o) (value_type b)) (is_integer (value_type b))) _ (compound_counts structs from op o (object_type o) b h k)

  stepped_counts : (structs : List Extent) (from : ℕ) (w : Way) (g : Given) (o : Object) (t : CType) → CountsObject o → Holds Counts (step_of structs from w g o t)
  stepped_counts structs from w g o (Integer k) h = h
  stepped_counts structs from w g o (PointerTo t) h = holds_after Counts (keep from 8 (is_complete structs t)) (Fine (Stepped o w g (size_in structs t))) h
  stepped_counts structs from w g o t h = tt

  step_counts : (structs : List Extent) (from : ℕ) (w : Way) (g : Given) (a : Typed) → CountsTyped a → Holds Counts (step structs from w g a)
  step_counts structs from w g (AnObject o) h = stepped_counts structs from w g o (object_type o) h
  step_counts structs from w g (AFunction f t) h = tt
  step_counts structs from w g (AValue v) h = tt

  pointers_counts : (from : ℕ) (c a b : Value) (t u : CType) → Counts c → Counts a → Counts b → Holds Counts (pointers_chosen from c a b t u)
  pointers_counts from c a b Void u h k j = (h, k, j)
  pointers_counts from c a b t Void h k j = (h, k, j)
  pointers_counts from c a b t u h k j = tt

  unlike_counts : (from : ℕ) (c a b : Value) (t u : CType) → Counts c → Counts a → Counts b → Holds Counts (unlike_chosen from c a b t u)
  unlike_counts from c a b (Integer m) (Integer n) h k j = (h, k, j)
  unlike_counts from c a b (PointerTo t) (PointerTo u) h k j = pointers_counts from c a b t u h k j
  unlike_counts from c a b (PointerTo t) u h k j = holds_after Counts (keep from 20 (is_null b)) (Fine (Choice c a (Convert (PointerTo t) b))) (h, k, j)
  unlike_counts from c a b t (PointerTo u) h k j = holds_after Counts (keep from 20 (is_null a)) (Fine (Choice c (Convert (PointerTo u) a) b)) (h, k, j)
  unlike_counts from c a b t u h k j = tt

  choice_counts : (from : ℕ) (c a b : Value) → Counts c → Counts a → Counts b → Holds Counts (choice from c a b)
  choice_counts from c a b h k j = holds_after Counts (scalar from c) _ (by (is_settled (value_type a) (value_type b)))
    where
      by : (settled : Bool) → Holds Counts (cond settled (Fine (Choice c a b)) (unlike_chosen from c a b (value_type a) (value_type b)))
      by true = (h, k, j)
      by false = unlike_counts from c a b (value_type a) (value_type b) h k j

  -- ---- expressions

  typed_value : (c : Checked Value) → Holds Counts c → Holds CountsTyped (a_value c)
  typed_value c h = holds_then Counts CountsTyped c _ h (λ v k. k)

  meant_counts : (from : ℕ) (name : List ℕ) (m : Option Meaning) → ((number : ℕ) (t : CType) → m ≡ Some (FunctionNamed number t) → IsAt us number t) → Holds CountsTyped (meant from name m)
  meant_counts from name (Some (FunctionNamed number t)) h = h number t refl
  meant_counts from name (Some (GlobalNamed place t)) h = tt
  meant_counts from name (Some (LocalNamed place t)) h = tt
  meant_counts from name None h = by (builtin_of name)
    where
      by : (b : Option Builtin) → Holds CountsTyped (unknown_name from b)
      by (Some b) = tt
      by None = tt

  member_counts : (env : Environment) (from : ℕ) (o : Object) (t : CType) (name : List ℕ) → CountsObject o → Holds CountsTyped (member_of env from o t name)
  member_counts env from o (StructOf number) name h = holds_on CountsTyped (need from 13 (member_in env.structs number name)) (λ m. Fine (AnObject (MemberOf o m.0 m.1))) (λ m. h)
  member_counts env from o t name h = tt

  named_member_counts : (env : Environment) (from : ℕ) (a : Typed) (name : List ℕ) → CountsTyped a → Holds CountsTyped (member env from a name)
  named_member_counts env from (AnObject o) name h = member_counts env from o (object_type o) name h
  named_member_counts env from (AFunction f t) name h = tt
  named_member_counts env from (AValue v) name h = tt

  arrow_counts : (env : Environment) (from : ℕ) (v : Value) (t : CType) (name : List ℕ) → Counts v → Holds CountsTyped (arrow_of env from v t name)
  arrow_counts env from v (PointerTo (UndefinedStruct tag)) name h = tt
  arrow_counts env from v (PointerTo (StructOf number)) name h = holds_after CountsTyped (keep from 2 (is_complete (extents env) (StructOf number))) (member_of env from (Pointed v (StructOf number)) (StructOf number) name)
      (member_counts env from (Pointed v (StructOf number)) (StructOf number) name h)
  arrow_counts env from v t name h = tt

  pointed_counts : (structs : List Extent) (from : ℕ) (v : Value) (t : CType) → value_type v ≡ t → Counts v → Holds CountsTyped (pointed_of structs from v t)
  pointed_counts structs from v (PointerTo (FunctionOf r ps)) e h = (h, ap target e)
  pointed_counts structs from v (PointerTo t) e h = holds_after CountsTyped (keep from 14 (is_complete structs t)) (Fine (AnObject (Pointed v t))) h
  pointed_counts structs from v t e h = tt

  element_counts : (structs : List Extent) (from : ℕ) (s : Sum) (t : CType) (p i : Value) → Counts p → Counts i → Holds CountsTyped (element structs from s t p i)
  element_counts structs from s t p i h k =
      holds_after CountsTyped (keep from 14 (is_complete structs t)) (keep from 14 (is_integer (value_type i)) >> Fine (AnObject (Element s p (to_kind I64 i) t)))
      (holds_after CountsTyped (keep from 14 (is_integer (value_type i))) (Fine (AnObject (Element s p (to_kind I64 i) t))) (h, k))

  subscript_counts : (structs : List Extent) (from : ℕ) (a b : Value) (t u : CType) → Counts a → Counts b → Holds CountsTyped (subscript_of structs from a b t u)
  subscript_counts structs from a b (PointerTo t) u h k = element_counts structs from PointerPlus t a b h k
  subscript_counts structs from a b t (PointerTo u) h k = element_counts structs from PlusPointer u b a k h
  subscript_counts structs from a b t u h k = tt

  taken_counts : (from : ℕ) (a : Typed) → CountsTyped a → Holds CountsTyped (address from a)
  taken_counts from (AnObject o) h = h
  taken_counts from (AFunction f t) h = address_counts f t h
  taken_counts from (AValue v) h = tt

  prefixed_counts : (structs : List Extent) (from : ℕ) (s : Sign) (a : Typed) → CountsTyped a → Holds CountsTyped (prefixed structs from s a)
  prefixed_counts structs from signs.Increment a h = typed_value (step structs from Up New a) (step_counts structs from Up New a h)
  prefixed_counts structs from signs.Decrement a h = typed_value (step structs from Down New a) (step_counts structs from Down New a h)
  prefixed_counts structs from signs.Ampersand a h = taken_counts from a h
  prefixed_counts structs from signs.Star a h = pointed_counts structs from (value_of a) (value_type (value_of a)) refl (value_counts a h)
  prefixed_counts structs from s a h = typed_value (signed_operand from s (value_of a)) (signed_counts from s (value_of a) (value_counts a h))

  postfixed_counts : (structs : List Extent) (from : ℕ) (s : Sign) (a : Typed) → CountsTyped a → Holds CountsTyped (postfixed structs from s a)
  postfixed_counts structs from signs.Increment a h = typed_value (step structs from Up Old a) (step_counts structs from Up Old a h)
  postfixed_counts structs from signs.Decrement a h = typed_value (step structs from Down Old a) (step_counts structs from Down Old a h)
  postfixed_counts structs from s a h = tt

  -- ---- calls

  -- what is called is known, and takes as many values as it has parameters
  abbrev pub TakesAll : Callee × CType × CTypes → Type 0
  TakesAll f = CalleeCalls f.0 x (types_count f.2) × IsKnown x.against.source f.0 × (params_of (called_type x.against.source f.0) ≡ f.2)

  takes : (f : Callee) (r : CType) (ps : CTypes) → CalleeIs f (FunctionOf r ps) → TakesAll (f, r, ps)
  takes (SourceFunction at number) r ps h = let of = serves.types number (FunctionOf r ps) h in (serves.sources number (FunctionOf r ps) h, of.known, ap params_of of.type)
  takes (BuiltinFunction at b) r ps h = (subst (λ t. Takes x.against.code (number_of b) (params_count t)) h (serves.builtins b), tt, ap params_of (builtin_type x.against.source b ∙ h))
  takes (Through v) r ps h = ((h.0, λ f info known sig. serves.pointers (FunctionOf r ps) f info known (sig ∙ ap x.sig h.1)), tt, ap params_of h.1)

  function_takes : (from : ℕ) (f : Callee) (t : CType) → CalleeIs f t → Holds TakesAll (function_type from t >>= (λ g. Fine (f, g.0, g.1)))
  function_takes from f (FunctionOf r ps) h = takes f r ps h
  function_takes from f Void h = tt
  function_takes from f (Integer k) h = tt
  function_takes from f (PointerTo t) h = tt
  function_takes from f (ArrayOf n t) h = tt
  function_takes from f (StructOf n) h = tt
  function_takes from f (UndefinedStruct tag) h = tt

  pointer_takes : (from : ℕ) (v : Value) (t : CType) → value_type v ≡ t → Counts v → Holds TakesAll (called_value from v t)
  pointer_takes from v (PointerTo t) e h = function_takes from (Through v) t (h, ap target e)
  pointer_takes from v Void e h = tt
  pointer_takes from v (Integer k) e h = tt
  pointer_takes from v (ArrayOf n t) e h = tt
  pointer_takes from v (StructOf n) e h = tt
  pointer_takes from v (UndefinedStruct tag) e h = tt
  pointer_takes from v (FunctionOf r ps) e h = tt

  called_takes : (from : ℕ) (a : Typed) → CountsTyped a → Holds TakesAll (called from a)
  called_takes from (AFunction f t) h = function_takes from f t h
  called_takes from (AnObject o) h = pointer_takes from (value_of (AnObject o)) (value_type (value_of (AnObject o))) refl (value_counts (AnObject o) h)
  called_takes from (AValue v) h = pointer_takes from v (value_type v) refl h

  callee_takes : (from at : ℕ) (b : Option Builtin) (c : Checked Typed) → Holds CountsTyped c → Holds TakesAll (elim b [ Some f ↦ builtin_called at f | None ↦ c >>= called from ])
  callee_takes from at (Some f) c h = function_takes at (BuiltinFunction at f) (prototype_of f) refl
  callee_takes from at None c h = holds_then CountsTyped TakesAll c (called from) h (called_takes from)

  -- one value per parameter, converted to its type
  abbrev pub Passes : CTypes → Values → Type 0
  Passes ts vs = ValuesCall vs x × (count vs ≡ types_count ts) × AreConverted ts vs

  mutual
    pub expression_counts : (e : Expr) (env : Environment) → NamesAre us env → Holds CountsTyped (expression e env)
    expression_counts (Name from name) env ns = meant_counts from name (meaning_of name env.scopes) (ns name)
    expression_counts (Number from n suffix decimal) env ns = tt
    expression_counts (Char from n) env ns = tt
    expression_counts (Text from bytes) env ns = tt
    expression_counts (Binary from s a b) env ns =
        holds_then CountsTyped CountsTyped (expression a env) _ (expression_counts a env ns) (λ c h. holds_then CountsTyped CountsTyped (expression b env) _ (expression_counts b env ns)
        (λ d k. typed_value (binary (extents env) from s (value_of c) (value_of d)) (binary_counts (extents env) from s (value_of c) (value_of d) (value_counts c h) (value_counts d k))))
    expression_counts (Assign from s a b) env ns =
        holds_then CountsTyped CountsTyped (expression a env) _ (expression_counts a env ns) (λ c h. holds_then CountsTyped CountsTyped (expression b env) _ (expression_counts b env ns)
        (λ d k. typed_value (assignment (extents env) from s c (value_of d)) (holds_then CountsObject Counts (left_object from c) _ (left_counts from c h) (λ o j. assignment_counts (extents env) from (operator_in s) o (value_of d) j (value_counts d k)))))
    expression_counts (Cond from a b c) env ns =
        holds_then CountsTyped CountsTyped (expression a env) _ (expression_counts a env ns) (λ d h. holds_then CountsTyped CountsTyped (expression b env) _ (expression_counts b env ns)
        (λ e k. holds_then CountsTyped CountsTyped (expression c env) _ (expression_counts c env ns)
        (λ f j. typed_value (choice from (value_of d) (value_of e) (value_of f)) (choice_counts from (value_of d) (value_of e) (value_of f) (value_counts d h) (value_counts e k) (value_counts f j)))))
    expression_counts (Prefix from s a) env ns = holds_then CountsTyped CountsTyped (expression a env) _ (expression_counts a env ns) (λ c h. prefixed_counts (extents env) from s c h)
    expression_counts (Postfix from s a) env ns = holds_then CountsTyped CountsTyped (expression a env) _ (expression_counts a env ns) (λ c h. postfixed_counts (extents env) from s c h)
    expression_counts (SizeofExpr from a) env ns = holds_on CountsTyped (expression a env) _ (λ c. holds_after CountsTyped (unevaluated c) (keep from 15 (is_complete (extents env) (typed_type c)) >> constant U64 (pos (size_in (extents env) (typed_type c)))) (holds_after CountsTyped (keep from 15 (is_complete (extents env) (typed_type c))) (constant U64 (pos (size_in (extents env) (typed_type c)))) tt))
    expression_counts (SizeofType from d) env ns = holds_on CountsTyped (declared_type d env) _ (λ t. holds_after CountsTyped (keep from 15 (is_complete (extents env) t)) (constant U64 (pos (size_in (extents env) t))) tt)
    expression_counts (Cast from d a) env ns =
        holds_on CountsTyped (declared_type d env) _ (λ t. holds_then CountsTyped CountsTyped (expression a env) _ (expression_counts a env ns) (λ c h. typed_value (cast from t (value_of c)) (holds_after Counts (keep from 7 (can_cast t (value_type (value_of c)))) (Fine (Convert t (value_of c))) (value_counts c h))))
    expression_counts (Index from a b) env ns =
        holds_then CountsTyped CountsTyped (expression a env) _ (expression_counts a env ns) (λ c h. holds_then CountsTyped CountsTyped (expression b env) _ (expression_counts b env ns)
        (λ d k. subscript_counts (extents env) from (value_of c) (value_of d) (value_type (value_of c)) (value_type (value_of d)) (value_counts c h) (value_counts d k)))
    expression_counts (Call from a es) env ns =
        holds_then TakesAll CountsTyped (elim (builtin_in env a) [ Some f ↦ builtin_called (start_of a) f | None ↦ expression a env >>= called from ]) _ (callee_takes from (start_of a) (builtin_in env a) (expression a env) (expression_counts a env ns))
        (λ f h. holds_then (Passes f.2) CountsTyped (arguments es env from f.2) _ (arguments_pass es env from f.2 ns)
        (λ vs k. (subst (λ n. CalleeCalls f.0 x n) (sym k.1) h.0, k.0, (h.1, subst (λ ts. AreConverted ts vs) (sym h.2) k.2))))
    expression_counts (Member from a name) env ns = holds_then CountsTyped CountsTyped (expression a env) _ (expression_counts a env ns) (λ c h. named_member_counts env from c name h)
    expression_counts (Arrow from a name) env ns = holds_then CountsTyped CountsTyped (expression a env) _ (expression_counts a env ns) (λ c h. arrow_counts env from (value_of c) (value_type (value_of c)) name (value_counts c h))

    arguments_pass : (es : Exprs) (env : Environment) (from : ℕ) (ts : CTypes) → NamesAre us env → Holds (Passes ts) (arguments es env from ts)
    arguments_pass NoExprs env from NoTypes ns = (tt, refl, tt)
    arguments_pass NoExprs env from (MoreTypes t ts) ns = tt
    arguments_pass (MoreExprs a es) env from NoTypes ns = tt
    arguments_pass (MoreExprs a es) env from (MoreTypes t ts) ns =
        holds_then CountsTyped (Passes (MoreTypes t ts)) (expression a env) _ (expression_counts a env ns)
        (λ c h. holds_then (Argument t) (Passes (MoreTypes t ts)) (assigned (start_of a) t (value_of c)) _ (assigned_passes (start_of a) t (value_of c) (value_counts c h))
        (λ v k. holds_then (Passes ts) (Passes (MoreTypes t ts)) (arguments es env from ts) _ (arguments_pass es env from ts ns) (λ vs j. ((k.0, j.0), ap suc j.1, (k.1, j.2)))))

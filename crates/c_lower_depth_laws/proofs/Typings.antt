-- How deep what an expression is turns out, by what its parts are.
use Rattle.std.proofs.Common.{◌≡◌, ℕ, max, Bool, true, false, List, Option, Some, None, refl, sym, ◌∙◌, subst}
use Rattle.std.specs.Prelude.{ℤ, pos, negsuc, not, nat_lt}
use Rattle.r2_num.specs.declared.kinds.IntKind.TheVariants.{I64, U64}
use Rattle.c_lexer.specs.declared.token.Sign.{Sign}
use Rattle.c_lexer.specs.declared.token.Sign.TheVariants as signs
use Rattle.c_types_model.specs.Types.{CType, Void, Integer, PointerTo, ArrayOf, StructOf, UndefinedStruct, FunctionOf}
use Rattle.c_types_model.specs.declared.extent.Extent.{Extent}
use Rattle.c_builtins.specs.declared.builtin.Builtin.{Builtin}
use Rattle.c_types_rules.specs.Checked.{Checked, Fine, keep, unevaluated, ◌>>=◌, ◌>>◌}
use Rattle.c_types_rules.specs.TypeTests.{is_complete, is_function, is_integer, is_scalar}
use Rattle.c_types_rules.specs.Constants.{integer_constant}
use Rattle.c_types_rules.specs.TypedTree.{Object, Value, Typed, Sum, PointerPlus, PlusPointer, Way, Given, Up, Down, New, Old, SourceFunction, BuiltinFunction, Through, AnObject, AFunction, AValue, MemberOf, Pointed, Element, typed_type, object_type, value_type, read_as, address_of_callee, value_of}
use Rattle.c_types_rules.specs.Operators.{assignment, assignment_of, left_object, operator_in, signed_operand, size_in, step, to_kind}
use Rattle.c_types_rules.specs.Environment.{Environment, Meaning, FunctionNamed, GlobalNamed, LocalNamed, builtin_of, extents}
use Rattle.c_types_rules.specs.Expressions.{meant, unknown_name, member, member_of, arrow_of, pointed_of, element, subscript_of, address, a_value, prefixed, postfixed, length_of, constant, member_in}
use Rattle.c_lower_placement.specs.Heights.{object_depth, value_depth, sum_depth, pair_depth}
use Rattle.c_lower.specs.Depths.{typed_depth}
use Rattle.c_lower_depth_laws.specs.Expressions.{assignment_depth, prefix_depth}
use Rattle.c_lower_depth_laws.proofs.Found.{Finds, finds_as, finds_last, finds_on, finds_kept, finds_needed, finds_unevaluated, max_zero}
use Rattle.c_lower_depth_laws.proofs.Operators.{Deep, signed_deep, assignment_deep, step_deep}
use Rattle.c_lower_depth_laws.specs.Names.{means_object}

-- the depth of what an expression is: of an object's address, a function's address, or a value
abbrev pub depth_of : Typed → ℕ
depth_of (AnObject o) = object_depth o
depth_of (AFunction f t) = value_depth (address_of_callee f t)
depth_of (AValue v) = value_depth v

-- whether it is a function that is named
abbrev pub is_named : Typed → Bool
is_named (AnObject o) = false
is_named (AFunction (SourceFunction from number) t) = true
is_named (AFunction (BuiltinFunction from b) t) = true
is_named (AFunction (Through v) t) = false
is_named (AValue v) = false

-- a function has a function's type
abbrev pub HasType : Typed → Type 0
HasType (AnObject o) = Unit {0}
HasType (AFunction f t) = is_function t ≡ true
HasType (AValue v) = Unit {0}

-- an expression of this depth, which names a function or doesn't
abbrev pub Is : ℕ → Bool → Typed → Type 0
Is n b a = (depth_of a ≡ n) × (is_named a ≡ b) × HasType a

read_deep : (o : Object) (t : CType) → value_depth (read_as o t) ≡ object_depth o
read_deep o (ArrayOf n t) = refl
read_deep o Void = refl
read_deep o (Integer k) = refl
read_deep o (PointerTo t) = refl
read_deep o (StructOf n) = refl
read_deep o (UndefinedStruct tag) = refl
read_deep o (FunctionOf r ps) = refl

pub value_deep : (a : Typed) → value_depth (value_of a) ≡ depth_of a
value_deep (AnObject o) = read_deep o (object_type o)
value_deep (AFunction f t) = refl
value_deep (AValue v) = refl

pub is_as : (m n : ℕ) (b : Bool) (k : ℕ) (c : Checked Typed) → m ≡ n → Finds (Is m b) k c → Finds (Is n b) k c
is_as m n b k c e h = subst (λ i. Finds (Is i b) k c) e h

pub value_is : (n : ℕ) (c : Checked Value) → Finds (Deep n) 0 c → Finds (Is n false) 0 (a_value c)
value_is n c h = finds_last (Deep n) (Is n false) 0 c _ h (λ v e. ((e, refl, tt), refl))

-- ---- names

pub meant_is : (from : ℕ) (name : List ℕ) (m : Option Meaning) (b : Bool) → not (means_object m) ≡ b → ((number : ℕ) (t : CType) → m ≡ Some (FunctionNamed number t) → is_function t ≡ true) → Finds (Is 1 b) 0 (meant from name m)
meant_is from name (Some (FunctionNamed number t)) b e typed = ((refl, e, typed number t refl), refl)
meant_is from name (Some (GlobalNamed place t)) b e typed = ((refl, e, tt), refl)
meant_is from name (Some (LocalNamed place t)) b e typed = ((refl, e, tt), refl)
meant_is from name None b e typed = by (builtin_of name)
  where
    by : (o : Option Builtin) → Finds (Is 1 b) 0 (unknown_name from o)
    by (Some f) = tt
    by None = tt

-- ---- assignments and steps

pub assignment_found : (structs : List Extent) (from : ℕ) (s : Sign) (a : Typed) (b : Value) → Finds (Deep (assignment_depth (operator_in s) (depth_of a) (value_depth b))) 0 (assignment structs from s a b)
assignment_found structs from s (AnObject o) b =
    finds_on (λ z. z ≡ o) (Deep (assignment_depth (operator_in s) (object_depth o) (value_depth b))) 0 (left_object from (AnObject o)) _ (finds_kept (λ z. z ≡ o) 0 from 8 (is_scalar (object_type o)) (Fine o) (refl, refl))
    (λ z e. subst (λ y. Finds (Deep (assignment_depth (operator_in s) (object_depth o) (value_depth b))) 0 (assignment_of structs from (operator_in s) y b)) (sym e) (assignment_deep structs from (operator_in s) o b))
assignment_found structs from s (AFunction f t) b = tt
assignment_found structs from s (AValue v) b = tt

step_found : (structs : List Extent) (from : ℕ) (w : Way) (g : Given) (a : Typed) → Finds (Deep (max (depth_of a) 2)) 0 (step structs from w g a)
step_found structs from w g (AnObject o) = step_deep structs from w g o (object_type o)
step_found structs from w g (AFunction f t) = tt
step_found structs from w g (AValue v) = tt

pub postfixed_is : (structs : List Extent) (from : ℕ) (s : Sign) (a : Typed) → Finds (Is (max (depth_of a) 2) false) 0 (postfixed structs from s a)
postfixed_is structs from signs.Increment a = value_is (max (depth_of a) 2) (step structs from Up Old a) (step_found structs from Up Old a)
postfixed_is structs from signs.Decrement a = value_is (max (depth_of a) 2) (step structs from Down Old a) (step_found structs from Down Old a)
postfixed_is structs from s a = tt

-- ---- prefixes

taken_is : (from : ℕ) (a : Typed) → Finds (Is (depth_of a) false) 0 (address from a)
taken_is from (AnObject o) = ((refl, refl, tt), refl)
taken_is from (AFunction f t) = ((refl, refl, tt), refl)
taken_is from (AValue v) = tt

pointed_is : (structs : List Extent) (from : ℕ) (v : Value) (t : CType) → Finds (Is (value_depth v) false) 0 (pointed_of structs from v t)
pointed_is structs from v (PointerTo (FunctionOf r ps)) = ((refl, refl, refl), refl)
pointed_is structs from v (PointerTo t) = finds_kept (Is (value_depth v) false) 0 from 14 (is_complete structs t) (Fine (AnObject (Pointed v t))) ((refl, refl, tt), refl)
pointed_is structs from v t = tt

signed_is : (from : ℕ) (s : Sign) (a : Typed) → Finds (Is (depth_of a) false) 0 (a_value (signed_operand from s (value_of a)))
signed_is from s a = value_is (depth_of a) (signed_operand from s (value_of a)) (subst (λ n. Finds (Deep n) 0 (signed_operand from s (value_of a))) (value_deep a) (signed_deep from s (value_of a)))

pub prefixed_is : (structs : List Extent) (from : ℕ) (s : Sign) (a : Typed) → Finds (Is (prefix_depth s (depth_of a)) false) 0 (prefixed structs from s a)
prefixed_is structs from signs.Increment a = value_is (max (depth_of a) 2) (step structs from Up New a) (step_found structs from Up New a)
prefixed_is structs from signs.Decrement a = value_is (max (depth_of a) 2) (step structs from Down New a) (step_found structs from Down New a)
prefixed_is structs from signs.Ampersand a = taken_is from a
prefixed_is structs from signs.Star a = is_as (value_depth (value_of a)) (depth_of a) false 0 (pointed_of structs from (value_of a) (value_type (value_of a))) (value_deep a) (pointed_is structs from (value_of a) (value_type (value_of a)))
prefixed_is structs from s a = signed_is from s a

-- ---- members and subscripts

member_is : (env : Environment) (from : ℕ) (o : Object) (t : CType) (name : List ℕ) → Finds (Is (object_depth o) false) 0 (member_of env from o t name)
member_is env from o (StructOf number) name = finds_needed (Is (object_depth o) false) 0 from 13 (member_in env.structs number name) (λ m. Fine (AnObject (MemberOf o m.0 m.1))) (λ m. ((refl, refl, tt), refl))
member_is env from o t name = tt

pub named_member_is : (env : Environment) (from : ℕ) (a : Typed) (name : List ℕ) → Finds (Is (depth_of a) false) 0 (member env from a name)
named_member_is env from (AnObject o) name = member_is env from o (object_type o) name
named_member_is env from (AFunction f t) name = tt
named_member_is env from (AValue v) name = tt

pub arrow_is : (env : Environment) (from : ℕ) (v : Value) (t : CType) (name : List ℕ) → Finds (Is (value_depth v) false) 0 (arrow_of env from v t name)
arrow_is env from v (PointerTo (UndefinedStruct tag)) name = tt
arrow_is env from v (PointerTo (StructOf number)) name = finds_kept (Is (value_depth v) false) 0 from 2 (is_complete (extents env) (StructOf number)) (member_of env from (Pointed v (StructOf number)) (StructOf number) name) (member_is env from (Pointed v (StructOf number)) (StructOf number) name)
arrow_is env from v t name = tt

element_is : (structs : List Extent) (from : ℕ) (s : Sum) (t : CType) (p i : Value) → Finds (Is (sum_depth s (value_depth p) (value_depth i)) false) 0 (element structs from s t p i)
element_is structs from s t p i =
    finds_kept (Is (sum_depth s (value_depth p) (value_depth i)) false) 0 from 14 (is_complete structs t) (keep from 14 (is_integer (value_type i)) >> Fine (AnObject (Element s p (to_kind I64 i) t)))
    (finds_kept (Is (sum_depth s (value_depth p) (value_depth i)) false) 0 from 14 (is_integer (value_type i)) (Fine (AnObject (Element s p (to_kind I64 i) t))) ((refl, refl, tt), refl))

pub subscript_is : (structs : List Extent) (from : ℕ) (a b : Value) (t u : CType) → Finds (Is (pair_depth (value_depth a) (value_depth b)) false) 0 (subscript_of structs from a b t u)
subscript_is structs from a b (PointerTo t) u = element_is structs from PointerPlus t a b
subscript_is structs from a b t (PointerTo u) = element_is structs from PlusPointer u b a
subscript_is structs from a b t u = tt

-- ---- what isn't evaluated

-- the operand of a sizeof has an object's type, so that it is no function
pub sized_is : (structs : List Extent) (from : ℕ) (a : Typed) → HasType a → Finds (Is 1 false) (depth_of a) (unevaluated a >> (keep from 15 (is_complete structs (typed_type a)) >> constant U64 (pos (size_in structs (typed_type a)))))
sized_is structs from a h = by a h
  where
    sized : (a : Typed) → typed_depth a ≡ depth_of a → Finds (Is 1 false) (depth_of a) (unevaluated a >> (keep from 15 (is_complete structs (typed_type a)) >> constant U64 (pos (size_in structs (typed_type a)))))
    sized a e =
        let size = constant U64 (pos (size_in structs (typed_type a))) in
        finds_as (Is 1 false) (max (typed_depth a) 0) (depth_of a) (unevaluated a >> (keep from 15 (is_complete structs (typed_type a)) >> size)) (max_zero (typed_depth a) ∙ e)
        (finds_unevaluated (Is 1 false) 0 a (keep from 15 (is_complete structs (typed_type a)) >> size) (finds_kept (Is 1 false) 0 from 15 (is_complete structs (typed_type a)) size ((refl, refl, tt), refl)))

    by : (a : Typed) → HasType a → Finds (Is 1 false) (depth_of a) (unevaluated a >> (keep from 15 (is_complete structs (typed_type a)) >> constant U64 (pos (size_in structs (typed_type a)))))
    by (AnObject o) h = sized (AnObject o) refl
    by (AValue v) h = sized (AValue v) refl
    by (AFunction f (FunctionOf r ps)) h = tt
    by (AFunction f Void) h = absurd cc
    by (AFunction f (Integer k)) h = absurd cc
    by (AFunction f (PointerTo t)) h = absurd cc
    by (AFunction f (ArrayOf n t)) h = absurd cc
    by (AFunction f (StructOf n)) h = absurd cc
    by (AFunction f (UndefinedStruct tag)) h = absurd cc

length_found : {B : Type 0} (Q : B → Type 0) (k from : ℕ) (o : Option ℤ) (f : ℕ → Checked B) → ((n : ℕ) → Finds Q k (f n)) → Finds Q k (length_of from o >>= f)
length_found Q k from (Some (pos n)) f h = by (nat_lt 0 n)
  where
    by : (b : Bool) → Finds Q k ((keep from 4 b >> Fine n) >>= f)
    by true = h n
    by false = tt
length_found Q k from (Some (negsuc n)) f h = tt
length_found Q k from None f h = tt

-- the length of an array is a constant, so that it is no function
pub array_found : {B : Type 0} (Q : B → Type 0) (k from : ℕ) (a : Typed) (f : ℕ → Checked B) → ((n : ℕ) → Finds Q k (f n)) → Finds Q (max (depth_of a) k) (unevaluated a >> (length_of from (integer_constant (value_of a)) >>= f))
array_found Q k from (AnObject o) f h = finds_unevaluated Q k (AnObject o) (length_of from (integer_constant (value_of (AnObject o))) >>= f) (length_found Q k from (integer_constant (value_of (AnObject o))) f h)
array_found Q k from (AFunction (SourceFunction at number) t) f h = tt
array_found Q k from (AFunction (BuiltinFunction at b) t) f h = tt
array_found Q k from (AFunction (Through v) t) f h = finds_unevaluated Q k (AFunction (Through v) t) (length_of from (integer_constant v) >>= f) (length_found Q k from (integer_constant v) f h)
array_found Q k from (AValue v) f h = finds_unevaluated Q k (AValue v) (length_of from (integer_constant v) >>= f) (length_found Q k from (integer_constant v) f h)

-- Which constants are lengths.
use Rattle.std.proofs.Common.{◌≡◌, ℤ, pos, ◌≤ℤ◌, Bool, true, false, ◌&&◌, if◌then◌else◌, Option, Some, None, refl, arith}
use Rattle.std.proofs.lemmas.Int.{ints}
use Rattle.r2_num.specs.declared.kinds.IntKind.{IntKind}
use Rattle.r2_num.specs.declared.kinds.IntKind.TheVariants.{I8, U8, I16, U16, I32, U32, I64, U64}
use Rattle.r2_num.specs.Kinds.{IsValue}
use Rattle.c_types_model.specs.Types.{CType, Integer}
use Rattle.c_types_rules.specs.Constants.{constant_value, integer_constant, is_of_constants}
use Rattle.c_types_rules.specs.TypeTests.{is_integer}
use Rattle.c_types_rules.specs.TypedTree.{Value, Choice, Constant, Convert, Negate, Complement, Arithmetic, Not, Both, Either, result_kind, value_type}
use Rattle.c_types_operators.proofs.Rules.{first_true, second_true}

-- constants are integers
of_integer : (c : CType) → is_integer c ≡ true → (k : IntKind) × (c ≡ Integer k)
of_integer (Integer k) h = (k, refl)
of_integer _ h = absurd cc

constants_are_integers : (v : Value) → is_of_constants v ≡ true → (k : IntKind) × (value_type v ≡ Integer k)
constants_are_integers (Constant k n) h = (k, refl)
constants_are_integers (Convert t v) h = of_integer t (first_true (is_integer t) (is_of_constants v) h)
constants_are_integers (Negate k v) h = (k, refl)
constants_are_integers (Complement k v) h = (k, refl)
constants_are_integers (Arithmetic op k a b) h = (result_kind op k, refl)
constants_are_integers (Not v) h = (I32, refl)
constants_are_integers (Both a b) h = (I32, refl)
constants_are_integers (Either a b) h = (I32, refl)
constants_are_integers (Choice c a b) h = constants_are_integers a (first_true (is_of_constants a) (is_of_constants b) (second_true (is_of_constants c) (is_of_constants a && is_of_constants b) h))
constants_are_integers _ h = absurd cc

tested : (p : Bool) (o : Option ℤ) (n : ℤ) → (if p then o else None) ≡ Some n → p ≡ true
tested true o n h = refl
tested false o n h = absurd cc

constant_type : (v : Value) (n : ℤ) → integer_constant v ≡ Some n → (k : IntKind) × (value_type v ≡ Integer k)
constant_type v n h = constants_are_integers v (tested (is_of_constants v) (constant_value v) n h)

-- a value of a kind is below 2^64
small : (k : IntKind) (n : ℤ) → IsValue k n → n ≤ℤ pos 18446744073709551615
small I8 n h = omega (arith, ints)
small U8 n h = omega (arith, ints)
small I16 n h = omega (arith, ints)
small U16 n h = omega (arith, ints)
small I32 n h = omega (arith, ints)
small U32 n h = omega (arith, ints)
small I64 n h = omega (arith, ints)
small U64 n h = omega (arith, ints)

pub constant_is_small : (v : Value) (n : ℤ) → integer_constant v ≡ Some n → ((k : IntKind) → value_type v ≡ Integer k → IsValue k n) → n ≤ℤ pos 18446744073709551615
constant_is_small v n h range = let type = constant_type v n h in small type.0 n (range type.0 type.1)

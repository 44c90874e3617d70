-- Integer constant expressions (C11 6.6).
use Rattle.std.specs.Prelude.{ℤ, pos, negsuc, ◌-ℤ◌, Bool, true, false, ◌&&◌, if◌then◌else◌, Option, Some, None, Result, Ok, Err, option_map}
use Rattle.r2_num.specs.declared.operations.Arith.{Arith}
use Rattle.r2_num.specs.Conversions.{wrapped}
use Rattle.r2_num.specs.Operations.{binary_of, equal, truth}
use Rattle.c_types_model.specs.Types.{CType, Integer}
use Rattle.c_types_rules.specs.TypeTests.{is_integer}
use Rattle.c_types_rules.specs.TypedTree.{Value, Constant, Convert, Negate, Complement, Arithmetic, Not, Both, Either, Choice}

-- every part is of integer constants, also one that isn't evaluated
abbrev pub is_of_constants : Value → Bool
is_of_constants (Constant k n) = true
is_of_constants (Convert t v) = is_integer t && is_of_constants v
is_of_constants (Negate k v) = is_of_constants v
is_of_constants (Complement k v) = is_of_constants v
is_of_constants (Arithmetic op k a b) = is_of_constants a && is_of_constants b
is_of_constants (Not v) = is_of_constants v
is_of_constants (Both a b) = is_of_constants a && is_of_constants b
is_of_constants (Either a b) = is_of_constants a && is_of_constants b
is_of_constants (Choice c a b) = is_of_constants c && (is_of_constants a && is_of_constants b)
is_of_constants _ = false

abbrev pub is_zero : ℤ → Bool
is_zero n = equal n (pos 0)

-- the value of a conversion
abbrev pub converted : CType → ℤ → Option ℤ
converted (Integer k) n = Some (wrapped k n)
converted _ n = None

abbrev pub result : Result ℤ Arith → Option ℤ
result (Ok n) = Some n
result (Err why) = None

abbrev pub is_true : ℤ → ℤ
is_true n = truth (if is_zero n then false else true)

infixl 10 ◌>>=◌
abbrev pub ◌>>=◌ : Option ℤ → (ℤ → Option ℤ) → Option ℤ
Some n >>= f = f n
None >>= f = None

-- the value, where the parts that are evaluated have one (C11 6.6, 3 and 4); results wrap
abbrev pub constant_value : Value → Option ℤ
constant_value (Constant k n) = Some n
constant_value (Convert t v) = do
  n ← constant_value v
  converted t n
constant_value (Negate k v) = do
  n ← constant_value v
  Some (wrapped k (pos 0 -ℤ n))
constant_value (Complement k v) = do
  n ← constant_value v
  Some (wrapped k (negsuc 0 -ℤ n))
constant_value (Arithmetic op k a b) = do
  m ← constant_value a
  n ← constant_value b
  result (binary_of op k m n)
constant_value (Not v) = do
  n ← constant_value v
  Some (truth (is_zero n))
constant_value (Both a b) = do
  m ← constant_value a
  if is_zero m then Some (pos 0) else option_map is_true (constant_value b)
constant_value (Either a b) = do
  m ← constant_value a
  if is_zero m then option_map is_true (constant_value b) else Some (pos 1)
constant_value (Choice c a b) = do
  n ← constant_value c
  if is_zero n then constant_value b else constant_value a
constant_value _ = None

-- the value of an integer constant expression; None of any other
abbrev pub integer_constant : Value → Option ℤ
integer_constant v = if is_of_constants v then constant_value v else None

-- the constant 0 (C11 6.3.2.3, 3)
abbrev pub is_null : Value → Bool
is_null v = elim (integer_constant v) [ Some n ↦ is_zero n | None ↦ false ]

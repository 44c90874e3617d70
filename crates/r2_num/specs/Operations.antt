-- The operators on two values of one kind, exactly.
use Rattle.std.specs.Prelude.{◌≡◌, ◌^◌, Bool, true, false, if◌then◌else◌, ◌&&◌, ◌||◌, not, ◌⊎◌, ℤ, pos, negsuc, ◌+ℤ◌, ◌-ℤ◌, ◌*ℤ◌, ◌≤ℤ◌, ◌<ℤ◌, int_lt, int_le, int_div, int_rem, unsigned_abs, bit_and, bit_or, bit_xor, Option, Some, None, Result, Ok, Err}
use Rattle.std.specs.Int.{int_div_euclid}
use Rattle.r2_num.specs.declared.kinds.IntKind.{IntKind}
use Rattle.r2_num.specs.declared.operations.Op.{Op}
use Rattle.r2_num.specs.declared.operations.Op.TheVariants.{Add, Sub, Mul, Div, Rem, Shl, Shr, And, Or, Xor, Eq, Ne, Lt, Le, Gt, Ge}
use Rattle.r2_num.specs.declared.operations.Arith.{Arith}
use Rattle.r2_num.specs.declared.operations.Arith.TheVariants.{Divide, Shift}
use Rattle.r2_num.specs.declared.kinds.IntKind.TheVariants.{I64, U64}
use Rattle.r2_num.specs.Kinds.{width_of, least, greatest, IsValue}
use Rattle.r2_num.specs.Conversions.{wrapped, pattern_of}

-- the value of a comparison (C11 6.5.8, 6.5.9)
abbrev pub truth : Bool → ℤ
truth true = pos 1
truth false = pos 0

-- x equals y, as a test
abbrev pub equal : ℤ → ℤ → Bool
equal x y = int_le x y && int_le y x

-- the result of an operator before it is wrapped: `/` goes towards zero and `%` has the sign of the left
-- operand
-- (C11 6.5.5), `>>` rounds down, and `&`, `|` and `^` are on the patterns of the kind (C11 6.5.5 to 6.5.12)
abbrev pub exact : Op → IntKind → ℤ → ℤ → ℤ
exact Add k a b = a +ℤ b
exact Sub k a b = a -ℤ b
exact Mul k a b = a *ℤ b
exact Div k a b = int_div a b
exact Rem k a b = int_rem a b
exact Shl k a b = a *ℤ pos (2 ^ unsigned_abs b)
exact Shr k a b = int_div_euclid a (pos (2 ^ unsigned_abs b))
exact And k a b = pos (bit_and (pattern_of k a) (pattern_of k b))
exact Or k a b = pos (bit_or (pattern_of k a) (pattern_of k b))
exact Xor k a b = pos (bit_xor (pattern_of k a) (pattern_of k b))
exact Eq k a b = truth (equal a b)
exact Ne k a b = truth (not (equal a b))
exact Lt k a b = truth (int_lt a b)
exact Le k a b = truth (int_le a b)
exact Gt k a b = truth (int_lt b a)
exact Ge k a b = truth (int_le b a)

-- b is a value of some kind
abbrev pub IsAnyValue : ℤ → Type 0
IsAnyValue b = (least I64 ≤ℤ b) × (b ≤ℤ greatest U64)

-- what may stand on the right of an operator: a count of any kind after a shift, else a value of the kind
abbrev pub IsRight : Op → IntKind → ℤ → Type 0
IsRight Shl k b = IsAnyValue b
IsRight Shr k b = IsAnyValue b
IsRight op k b = IsValue k b

-- `/` or `%` by zero, or of the least signed value by -1 (C11 6.5.5, 5 and 6)
abbrev pub DividesWrong : Op → IntKind → ℤ → ℤ → Type 0
DividesWrong op k a b = ((op ≡ Div) ⊎ (op ≡ Rem)) × ((b ≡ pos 0) ⊎ ((a ≡ least k) × (b ≡ negsuc 0)))

-- `<<` or `>>` by a count that is below 0 or not below the width (C11 6.5.7, 3)
abbrev pub ShiftsWrong : Op → IntKind → ℤ → Type 0
ShiftsWrong op k b = ((op ≡ Shl) ⊎ (op ≡ Shr)) × ((b <ℤ pos 0) ⊎ (pos (width_of k) ≤ℤ b))

-- the same two as tests
abbrev pub divide_fault : IntKind → ℤ → ℤ → Bool
divide_fault k a b = equal b (pos 0) || (equal a (least k) && equal b (negsuc 0))

abbrev pub shift_fault : IntKind → ℤ → Bool
shift_fault k b = int_lt b (pos 0) || int_le (pos (width_of k)) b

-- why an operator has no result
abbrev pub fault_of : Op → IntKind → ℤ → ℤ → Option Arith
fault_of Div k a b = if divide_fault k a b then Some Divide else None
fault_of Rem k a b = if divide_fault k a b then Some Divide else None
fault_of Shl k a b = if shift_fault k b then Some Shift else None
fault_of Shr k a b = if shift_fault k b then Some Shift else None
fault_of op k a b = None

-- v, unless there is a reason against it
abbrev pub unless : Option Arith → ℤ → Result ℤ Arith
unless None v = Ok v
unless (Some why) v = Err why

-- what an operator gives: the exact result, wrapped to the kind
abbrev pub binary_of : Op → IntKind → ℤ → ℤ → Result ℤ Arith
binary_of op k a b = unless (fault_of op k a b) (wrapped k (exact op k a b))

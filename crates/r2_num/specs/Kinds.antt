-- The integer kinds: width, sign and range.
use Rattle.std.specs.Prelude.{ℕ, ◌-◌, ◌^◌, Bool, true, false, if◌then◌else◌, ℤ, pos, neg_ℤ, ◌≤ℤ◌}
use Rattle.r2_num.specs.declared.kinds.IntKind.{IntKind}
use Rattle.r2_num.specs.declared.kinds.IntKind.TheVariants.{I8, U8, I16, U16, I32, U32, I64, U64}

-- how many bits a kind has (C11 6.2.6.2)
abbrev pub width_of : IntKind → ℕ
width_of I8 = 8
width_of U8 = 8
width_of I16 = 16
width_of U16 = 16
width_of I32 = 32
width_of U32 = 32
width_of I64 = 64
width_of U64 = 64

-- whether a kind has negative values (C11 6.2.5)
abbrev pub signed : IntKind → Bool
signed I8 = true
signed U8 = false
signed I16 = true
signed U16 = false
signed I32 = true
signed U32 = false
signed I64 = true
signed U64 = false

-- the least value of a kind: of w bits in two's complement, -2^(w-1), or 0 of an unsigned kind (C11
-- 6.2.6.2)
abbrev pub least : IntKind → ℤ
least k = if signed k then neg_ℤ (pos (2 ^ (width_of k - 1))) else pos 0

-- the greatest value of a kind: 2^(w-1) - 1, or 2^w - 1 of an unsigned kind (C11 6.2.6.2)
abbrev pub greatest : IntKind → ℤ
greatest k = if signed k then pos (2 ^ (width_of k - 1) - 1) else pos (2 ^ width_of k - 1)

-- v is a value of the kind
abbrev pub IsValue : IntKind → ℤ → Type 0
IsValue k v = (least k ≤ℤ v) × (v ≤ℤ greatest k)

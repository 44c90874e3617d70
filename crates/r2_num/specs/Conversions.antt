-- What becomes of a value that is converted to a kind, and to which kind operands are converted.
use Rattle.std.specs.Prelude.{ℕ, ◌^◌, Bool, if◌then◌else◌, ◌&&◌, ℤ, pos, ◌+ℤ◌, ◌-ℤ◌, int_le, nat_le, unsigned_abs}
use Rattle.std.specs.Int.{int_rem_euclid}
use Rattle.r2_num.specs.declared.kinds.IntKind.{IntKind}
use Rattle.r2_num.specs.declared.kinds.IntKind.TheVariants.{I8, U8, I16, U16, I32, U32, I64, U64}
use Rattle.r2_num.specs.Kinds.{width_of, signed, least, greatest}

-- the value of the kind that equals v modulo 2 to the width (C11 6.3.1.3, where a signed kind wraps too)
abbrev pub wrapped : IntKind → ℤ → ℤ
wrapped k v = least k +ℤ int_rem_euclid (v -ℤ least k) (pos (2 ^ width_of k))

-- the two's complement pattern of v in the bits of the kind, as a number (C11 6.2.6.2)
abbrev pub pattern_of : IntKind → ℤ → ℕ
pattern_of k v = unsigned_abs (int_rem_euclid v (pos (2 ^ width_of k)))

-- the rank of a kind: char, short, int, long (C11 6.3.1.1, 1)
abbrev pub rank : IntKind → ℕ
rank I8 = 1
rank U8 = 1
rank I16 = 2
rank U16 = 2
rank I32 = 3
rank U32 = 3
rank I64 = 4
rank U64 = 4

-- whether kind a can represent all values of kind b
abbrev pub represents_all : IntKind → IntKind → Bool
represents_all a b = int_le (least a) (least b) && int_le (greatest b) (greatest a)

-- the integer promotions (C11 6.3.1.1, 2): a kind whose rank is not above that of int becomes int
-- where int can represent all its values, else unsigned int; every other kind stays
abbrev pub promoted : IntKind → IntKind
promoted k = if nat_le (rank k) (rank I32) then (if represents_all I32 k then I32 else U32) else k

-- the unsigned kind that corresponds to a kind (C11 6.2.5, 6)
abbrev pub unsigned_like : IntKind → IntKind
unsigned_like I8 = U8
unsigned_like U8 = U8
unsigned_like I16 = U16
unsigned_like U16 = U16
unsigned_like I32 = U32
unsigned_like U32 = U32
unsigned_like I64 = U64
unsigned_like U64 = U64

-- the common kind of a signed and an unsigned operand, both promoted (C11 6.3.1.8, 1): the unsigned kind
-- where its
-- rank is not below; else the signed kind where it can represent all values of the unsigned one; else its
-- unsigned kind
abbrev pub common_mixed : IntKind → IntKind → IntKind
common_mixed s u = if nat_le (rank s) (rank u) then u else if represents_all s u then s else unsigned_like s

-- the common kind of two promoted operands (C11 6.3.1.8, 1): of two kinds of one sign, the one of greater
-- rank
abbrev pub common_promoted : IntKind → IntKind → IntKind
common_promoted a b =
    if signed a
    then (if signed b then (if nat_le (rank a) (rank b) then b else a) else common_mixed a b)
    else if signed b then common_mixed b a else if nat_le (rank a) (rank b) then b else a

-- the usual arithmetic conversions (C11 6.3.1.8)
abbrev pub common_of : IntKind → IntKind → IntKind
common_of a b = common_promoted (promoted a) (promoted b)

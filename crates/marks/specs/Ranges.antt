-- Ranges of memory, bytes that stand in them, and the first byte of a range at which something holds.
use Rattle.std.specs.Prelude.{ℕ, zero, suc, ◌+◌, ◌-◌, ◌*◌, ◌/◌, ◌%◌, ◌^◌, ◌<◌, ◌≤◌, Bool, true, false, ◌&&◌, ◌||◌, nat_le, nat_lt, ltb, List, [], ◌∷◌, map, get_or, Option, MatchOption}
use Rattle.marks.specs.declared.range.Range.{Range}

-- a range, and what its first bytes are
pub record Piece : Type 0 where
  pub range : Range
  pub bytes : List ℕ

-- a range that a call hands down to be filled after it, under a key
pub record Prepared : Type 0 where
  pub key : ℕ
  pub range : Range

abbrev pub range : ℕ → ℕ → Range
range addr len = record { addr = addr; len = len }

-- the address is that of a byte of the range
abbrev pub IsInRange : Range → ℕ → Type 0
IsInRange r x = (r.addr ≤ x) × (x < r.addr + r.len) × (x < 2 ^ 64)

-- whether the address is one of those from the first on, as far as they would go without a last address
abbrev pub covers : Range → ℕ → Bool
covers r x = nat_le r.addr x && nat_lt x (r.addr + r.len)

-- the same, where the range is given by its first address and its length
abbrev pub within : ℕ → ℕ → ℕ → Bool
within addr len x = covers (range addr len) x

-- P holds at no byte of the range
abbrev pub NoneIn : Range → (ℕ → Type 0) → Type 0
NoneIn r P = (x : ℕ) → IsInRange r x → ¬ P x

-- the least byte of the range at which P holds
pub record IsLeastIn (r : Range) (P : ℕ → Type 0) (x : ℕ) : Type 0 where
  pub in_range : IsInRange r x
  pub holds : P x
  pub least : (y : ℕ) → IsInRange r y → P y → x ≤ y

-- the least byte of the range at which P holds, if there is one
abbrev pub IsFirstIn : Range → (ℕ → Type 0) → Option ℕ → Type 0
IsFirstIn r P first = MatchOption first (NoneIn r P) (IsLeastIn r P)

abbrev pub any_range : List Range → ℕ → Bool
any_range [] x = false
any_range (r ∷ rs) x = covers r x || any_range rs x

abbrev pub any_piece : List Piece → ℕ → Bool
any_piece [] x = false
any_piece (p ∷ ps) x = covers p.range x || any_piece ps x

abbrev pub any_prepared : List Prepared → ℕ → Bool
any_prepared [] x = false
any_prepared (p ∷ ps) x = covers p.range x || any_prepared ps x

abbrev pub piece_ranges : List Piece → List Range
piece_ranges ps = map (λ p. p.range) ps

abbrev pub piece_bytes : List Piece → List (List ℕ)
piece_bytes ps = map (λ p. p.bytes) ps

abbrev pub prepared_ranges : List Prepared → List Range
prepared_ranges ps = map (λ p. p.range) ps

-- the byte at x, where these bytes stand from `at` on
abbrev pub byte_at : ℕ → List ℕ → ℕ → ℕ
byte_at at bytes x = get_or bytes (x - at) 0

-- the number of bytes, the low byte first
abbrev pub number_of_bytes : List ℕ → ℕ
number_of_bytes [] = 0
number_of_bytes (b ∷ bs) = b + 256 * number_of_bytes bs

-- a number in so many bytes, the low byte first
abbrev pub bytes_of_number : ℕ → ℕ → List ℕ
bytes_of_number zero value = []
bytes_of_number (suc width) value = value % 256 ∷ bytes_of_number width (value / 256)

abbrev pub are_bytes : List ℕ → Bool
are_bytes [] = true
are_bytes (b ∷ bs) = ltb b 256 && are_bytes bs

-- Sets of mutexes as rows of bits: each mutex that is known has a place, which is the same in each row. Those that are
-- known are a list, in the order of their places.
use Rattle.std.specs.Prelude.{◌≡◌, ℕ, suc, ◌/◌, ◌%◌, ◌≤◌, ℤ, Bool, true, false, if◌then◌else◌, List, [], ◌∷◌, length, get_or, nat_eq, Option, Some, None, position, slice_get}
use Rattle.std.specs.Int.{bit_at}
use Rattle.std.specs.Ordering.{int_eq}
use Rattle.lockset_check_rules.specs.Mutexes.{Locks, is_held, locks_of}

-- whether words, each by its number, have the bit of a place
unfoldable pub has_bit : (words : ℕ → ℕ) → (place : ℕ) → Bool
has_bit words place = nat_eq (bit_at (words (place / 64)) (place % 64)) 1

-- a word of a row, 0 past the last one
abbrev pub word_of : List ℕ → (number : ℕ) → ℕ
word_of row number = get_or row number 0

-- whether a row has the mutex of a place
abbrev pub is_on : List ℕ → (place : ℕ) → Bool
is_on row place = has_bit (word_of row) place

-- a row has all places of another
abbrev pub Includes : (row other : List ℕ) → Type 0
Includes row other = (p : ℕ) → is_on other p ≡ true → is_on row p ≡ true

-- only places below a number pass a test
abbrev pub IsWithin : (count : ℕ) (test : ℕ → Bool) → Type 0
IsWithin count test = (p : ℕ) → count ≤ p → test p ≡ false

abbrev pub AreWithin : (count : ℕ) → List (List ℕ) → Type 0
AreWithin count [] = Unit {0}
AreWithin count (row ∷ rows) = IsWithin count (is_on row) × AreWithin count rows

-- the mutexes whose places pass a test, in the order of their places
abbrev pub picked : List ℤ → (ℕ → Bool) → List ℤ
picked [] test = []
picked (k ∷ ks) test = if test 0 then k ∷ picked ks (λ p. test (suc p)) else picked ks (λ p. test (suc p))

-- the set of the mutexes whose places pass a test
abbrev pub set_by : List ℤ → (ℕ → Bool) → Locks
set_by known test = locks_of (picked known test)

-- the set that a row stands for
abbrev pub set_of : List ℤ → List ℕ → Locks
set_of known row = set_by known (is_on row)

abbrev pub sets_of : List ℤ → List (List ℕ) → List Locks
sets_of known [] = []
sets_of known (row ∷ rows) = set_of known row ∷ sets_of known rows

-- the place of a mutex, if it is known
unfoldable pub place_in : ℤ → List ℤ → Option ℕ
place_in m known = position (int_eq m) known

-- no mutex has two places
abbrev pub IsTable : List ℤ → Type 0
IsTable [] = Unit {0}
IsTable (k ∷ ks) = (is_held k ks ≡ false) × IsTable ks

-- a row that was looked for; without one, no places
abbrev pub row_or_none : Option (List ℕ) → List ℕ
row_or_none (Some row) = row
row_or_none None = []

-- the row of a place; past the last one, no places
abbrev pub row_at : List (List ℕ) → (place : ℕ) → List ℕ
row_at rows place = row_or_none (slice_get rows place)

-- more is known, and the places that passed a test stand for the set that they stood for
abbrev pub Learns : (old new : List ℤ) → Type 0
Learns old new = (length old ≤ length new) ×
    ((test : ℕ → Bool) → IsWithin (length old) test → set_by new test ≡ set_by old test)

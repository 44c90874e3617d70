-- Places in which one set differs from another, as words of bits by their numbers.
use Rattle.std.specs.Prelude.{◌≡◌, ℕ, ◌<◌, ◌^◌, Bool, true, false, not, ◌&&◌, if◌then◌else◌, List, [], ◌∷◌, drop, nat_eq, Some, bit_xor}
use Rattle.std.specs.Map.{lookup}
use Rattle.std.specs.Option.{unwrap_or}
use Rattle.lockset_check_held.specs.Rows.{IsWithin, has_bit, is_on}

-- the bits of words, each with its number, in an order that means nothing
abbrev pub Changes : Type 0
Changes = List (ℕ × ℕ)

-- a word of changes, 0 if it isn't among them
abbrev pub change_of : Changes → (number : ℕ) → ℕ
change_of changes number = unwrap_or (lookup (nat_eq number) changes) 0

-- whether a place is among changes
abbrev pub is_turned : Changes → (place : ℕ) → Bool
is_turned changes place = has_bit (change_of changes) place

-- each word has a bit
abbrev pub AreWords : Changes → Type 0
AreWords changes = (number word : ℕ) → lookup (nat_eq number) changes ≡ Some word →
    (0 < word) × (word < 2 ^ 64)

-- words of which one has bits
abbrev pub one_word : (number bits : ℕ) → ℕ → ℕ
one_word number bits n = if nat_eq number n then bits else 0

-- words are others but for bits, which are the other way round
abbrev pub Xors : (by old new : ℕ → ℕ) → Type 0
Xors by old new = (n : ℕ) → new n ≡ bit_xor (old n) (by n)

-- exactly one of two
abbrev pub one_of : Bool → Bool → Bool
one_of true b = not b
one_of false b = b

-- a test of places the other way round at those that pass another
abbrev pub turned : (by test : ℕ → Bool) → ℕ → Bool
turned by test p = one_of (by p) (test p)

-- the places of changes that a row has too
abbrev pub AreBoth : List ℕ → (changes both : Changes) → Type 0
AreBoth row changes both = (p : ℕ) → is_turned both p ≡ (is_on row p && is_turned changes p)

-- where the places that turned are below a number, those of a test stay below it
abbrev pub StaysWithin : (by old new : ℕ → Bool) → Type 0
StaysWithin by old new = (count : ℕ) → IsWithin count by → IsWithin count old → IsWithin count new

-- sets of places, each of which differs from the one before it by the changes of its place; the first from a set that is given
abbrev pub sets_after : (ℕ → Bool) → List Changes → List (ℕ → Bool)
sets_after test [] = []
sets_after test (c ∷ cs) = turned (is_turned c) test ∷ sets_after (turned (is_turned c) test) cs

-- such sets stay what they are where the one that is given turns
abbrev pub Keeps : (by : ℕ → Bool) (old new : List Changes) → Type 0
Keeps by old new = (test : ℕ → Bool) → sets_after (turned by test) new ≡ sets_after test old

-- one set more, which differs by changes from the one that is given
abbrev pub Adds : Changes → (old new : List Changes) → Type 0
Adds changes old new = (test : ℕ → Bool) → sets_after test new ≡ turned (is_turned changes) test ∷ sets_after test old

-- without the first of them
abbrev pub Drops : (old new : List Changes) → Type 0
Drops old new = (test : ℕ → Bool) → sets_after test new ≡ drop 1 (sets_after test old)

-- the changes of the first place, if there is one
abbrev pub first_changes : List Changes → Changes
first_changes [] = []
first_changes (c ∷ cs) = c

-- all changes are below a number
abbrev pub ChangesWithin : (count : ℕ) → List Changes → Type 0
ChangesWithin count [] = Unit {0}
ChangesWithin count (c ∷ cs) = IsWithin count (is_turned c) × ChangesWithin count cs

abbrev pub StayWithin : (by : ℕ → Bool) (old new : List Changes) → Type 0
StayWithin by old new = (count : ℕ) → IsWithin count by → ChangesWithin count old → ChangesWithin count new

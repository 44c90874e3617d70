-- Bits of words.
use Rattle.std.proofs.Common.{◌≡◌, ℕ, zero, suc, ◌+◌, ◌*◌, ◌/◌, ◌%◌, ◌^◌, ◌<◌, ◌≤◌, Bool, true, false, cond, ◌&&◌, List, [], ◌∷◌, ◌++◌, length, set, min, bit_and, bit_xor, refl, sym, ap, ◌∙◌, arith}
use Rattle.std.specs.Prelude.{get_or, nat_eq}
use Rattle.std.specs.Int.{bit_at, trailing_zeros, w64}
use Rattle.std.proofs.lemmas.Bool.{cases_eq, eq-eqb, eqb-false, eqb-true, ne_eqb}
use Rattle.std.proofs.lemmas.List.{get_or-set_same, get_or-set_other, get_or_past}
use Rattle.std.proofs.lemmas.Nat.{and_le_l, one_shl}
use Rattle.std.proofs.lemmas.Nat.Bits.{bit_at-lt, bit_at-pow_other, bit_at-pow_same, bit_at-trailing_zeros, bit_at-zero, bit_at_and, bit_at_xor, same_from_bits_below, shr_and_one}
use Rattle.std.specs.Int.Bits.{xor_zero_r}
use mathlib.Core.Logic.{⊎_elim}
use Rattle.lockset_check_held.proofs.Places.{which}
use Rattle.lockset_check_held.specs.Changes.{Xors, one_of, one_word, turned}
use Rattle.lockset_check_held.specs.Rows.{Includes, has_bit, is_on, word_of}

pub tested : (row : List ℕ) (w p : ℕ) → w ≡ word_of row (p / 64) → nat_eq (bit_and (w / 2 ^ (p % 64)) 1) 1 ≡ is_on row p
unfolding has_bit
tested row w p h = ap (λ (b : ℕ). nat_eq b 1) (shr_and_one w (p % 64)) ∙ ap (λ (v : ℕ). nat_eq (bit_at v (p % 64)) 1) h

one_bit : (x y : ℕ) → x < 2 → y < 2 → nat_eq x 1 ≡ nat_eq y 1 → x ≡ y
one_bit zero zero a b h = refl
one_bit zero (suc zero) a b h = absurd (let e : false ≡ true = h in cc)
one_bit zero (suc (suc y)) a b h = absurd (omega arith)
one_bit (suc zero) zero a b h = absurd (let e : true ≡ false = h in cc)
one_bit (suc zero) (suc zero) a b h = refl
one_bit (suc zero) (suc (suc y)) a b h = absurd (omega arith)
one_bit (suc (suc x)) y a b h = absurd (omega arith)

both : (x y : ℕ) → x < 2 → y < 2 → nat_eq (min x y) 1 ≡ (nat_eq x 1 && nat_eq y 1)
both zero zero a b = refl
both zero (suc zero) a b = refl
both zero (suc (suc y)) a b = absurd (omega arith)
both (suc zero) zero a b = refl
both (suc zero) (suc zero) a b = refl
both (suc zero) (suc (suc y)) a b = absurd (omega arith)
both (suc (suc x)) y a b = absurd (omega arith)

-- exactly one of two bits
odd : (x y : ℕ) → x < 2 → y < 2 → nat_eq ((x + y) % 2) 1 ≡ one_of (nat_eq y 1) (nat_eq x 1)
odd zero zero a b = refl
odd zero (suc zero) a b = refl
odd zero (suc (suc y)) a b = absurd (omega arith)
odd (suc zero) zero a b = refl
odd (suc zero) (suc zero) a b = refl
odd (suc zero) (suc (suc y)) a b = absurd (omega arith)
odd (suc (suc x)) y a b = absurd (omega arith)

-- ---- words and their bits

pub same_bits : (words others : ℕ → ℕ) → ((n : ℕ) → words n ≡ others n) → has_bit words ≡ has_bit others
same_bits words others h = λ j. has_bit (λ n. h n j)

pub no_bit : (words : ℕ → ℕ) (p : ℕ) → words (p / 64) ≡ 0 → has_bit words p ≡ false
unfolding has_bit
no_bit words p h = ap (λ (w : ℕ). nat_eq (bit_at w (p % 64)) 1) h ∙ ap (λ (b : ℕ). nat_eq b 1) (bit_at-zero (p % 64))

pub same_bit : (words others : ℕ → ℕ) (p : ℕ) → words (p / 64) ≡ others (p / 64) → has_bit words p ≡ has_bit others p
unfolding has_bit
same_bit words others p h = ap (λ (w : ℕ). nat_eq (bit_at w (p % 64)) 1) h

bits_of_one : (x y k : ℕ) → nat_eq (bit_at (bit_xor x y) k) 1 ≡ one_of (nat_eq (bit_at y k) 1) (nat_eq (bit_at x k) 1)
bits_of_one x y k = ap (λ (z : ℕ). nat_eq z 1) (bit_at_xor x y k) ∙ odd (bit_at x k) (bit_at y k) (bit_at-lt x k) (bit_at-lt y k)

bits_of_both : (x y k : ℕ) → nat_eq (bit_at (bit_and x y) k) 1 ≡ (nat_eq (bit_at x k) 1 && nat_eq (bit_at y k) 1)
bits_of_both x y k = ap (λ (z : ℕ). nat_eq z 1) (bit_at_and x y k) ∙ both (bit_at x k) (bit_at y k) (bit_at-lt x k) (bit_at-lt y k)

pub xored : (by old new : ℕ → ℕ) → Xors by old new → has_bit new ≡ turned (has_bit by) (has_bit old)
unfolding has_bit
xored by old new h = λ j p. at p j
  where
    at : (p : ℕ) → has_bit new p ≡ turned (has_bit by) (has_bit old) p
    at p = ap (λ (w : ℕ). nat_eq (bit_at w (p % 64)) 1) (h (p / 64)) ∙ bits_of_one (old (p / 64)) (by (p / 64)) (p % 64)

pub anded : (row by both : ℕ → ℕ) → ((n : ℕ) → both n ≡ bit_and (row n) (by n)) → (p : ℕ) → has_bit both p ≡ (has_bit row p && has_bit by p)
unfolding has_bit
anded row by both h p = ap (λ (w : ℕ). nat_eq (bit_at w (p % 64)) 1) (h (p / 64)) ∙ bits_of_both (row (p / 64)) (by (p / 64)) (p % 64)

-- the word of a place, with its bit alone
pub place_bit : (place bits : ℕ) → bits ≡ 1 * 2 ^ (place % 64) % 2 ^ 64 → has_bit (one_word (place / 64) bits) ≡ nat_eq place
unfolding has_bit
place_bit place bits is = λ j p. at p (nat_eq (place / 64) (p / 64)) refl j
  where
    bit : bits ≡ 2 ^ (place % 64)
    bit = is ∙ one_shl (place % 64) 64 (omega arith)

    on : (p : ℕ) (w : ℕ) (b : Bool) → one_word (place / 64) bits (p / 64) ≡ w → nat_eq (bit_at w (p % 64)) 1 ≡ b → has_bit (one_word (place / 64) bits) p ≡ b
    on p w b e f = ap (λ (v : ℕ). nat_eq (bit_at v (p % 64)) 1) e ∙ f

    at : (p : ℕ) (b : Bool) → nat_eq (place / 64) (p / 64) ≡ b → has_bit (one_word (place / 64) bits) p ≡ nat_eq place p
    at p true e =
        let same : place / 64 ≡ p / 64 = eqb-true (place / 64) (p / 64) e in
        let word : one_word (place / 64) bits (p / 64) ≡ 2 ^ (place % 64) = ap (λ (b : Bool). cond b bits 0) e ∙ bit in ⊎_elim
        (λ (here : p % 64 ≡ place % 64).
        on p (2 ^ (place % 64)) true word (ap (λ (k : ℕ). nat_eq (bit_at (2 ^ (place % 64)) k) 1) here ∙ ap (λ (b : ℕ). nat_eq b 1) (bit_at-pow_same (place % 64)))
        ∙ sym (eq-eqb place p (omega (arith, same, here))))
        (λ apart.
        on p (2 ^ (place % 64)) false word (ap (λ (b : ℕ). nat_eq b 1) (bit_at-pow_other (place % 64) (p % 64) apart))
        ∙ sym (ne_eqb place p (λ (e : place ≡ p). apart (ap (λ (q : ℕ). q % 64) (sym e)))))
        (cases_eq (p % 64) (place % 64))
    at p false e =
        on p 0 false (ap (λ (b : Bool). cond b bits 0) e) (ap (λ (b : ℕ). nat_eq b 1) (bit_at-zero (p % 64)))
        ∙ sym (ne_eqb place p (λ (same : place ≡ p). eqb-false (place / 64) (p / 64) e (ap (λ (q : ℕ). q / 64) same)))

-- a word that isn't 0 has a bit
pub some_bit : (words : ℕ → ℕ) (n : ℕ) → 0 < words n → words n < 2 ^ 64 → (p : ℕ) × (has_bit words p ≡ true)
unfolding has_bit
some_bit words n some fits =
    let z = bit_at-trailing_zeros w64 (words n) some fits in
    let b : ℕ = trailing_zeros w64 (words n) in
    let p : ℕ = n * 64 + b in
    let below : b < 64 = z.0 in
    let word : p / 64 ≡ n = omega arith in
    let bit : p % 64 ≡ b = omega arith in
    (p, (λ t. nat_eq (bit_at (words (word t)) (bit t)) 1) ∙ ap (λ (x : ℕ). nat_eq x 1) z.1)

-- ---- words of a row

pub zero_more : (ws : List ℕ) (i : ℕ) → get_or (ws ++ 0 ∷ []) i 0 ≡ get_or ws i 0
zero_more [] zero = refl
zero_more [] (suc i) = refl
zero_more (w ∷ ws) zero = refl
zero_more (w ∷ ws) (suc i) = zero_more ws i

-- one word of a row turns
pub word_turned : (old words : List ℕ) (number bits word : ℕ) → ((n : ℕ) → word_of words n ≡ word_of old n) → number < length words → word ≡ word_of words number
    → Xors (one_word number bits) (word_of old) (word_of (set words number (bit_xor word bits)))
word_turned old words number bits word same lt is n = by (nat_eq number n) refl
  where
    new : List ℕ
    new = set words number (bit_xor word bits)

    by : (b : Bool) → nat_eq number n ≡ b → word_of new n ≡ bit_xor (word_of old n) (one_word number bits n)
    by true e =
        let here : number ≡ n = eqb-true number n e in
        ap (word_of new) (sym here)
        ∙ (get_or-set_same words number (bit_xor word bits) 0 lt
        ∙ (ap (λ (w : ℕ). bit_xor w bits) (is ∙ (ap (word_of words) here ∙ same n))
        ∙ sym (ap (λ (b : Bool). bit_xor (word_of old n) (cond b bits 0)) e)))
    by false e =
        get_or-set_other words number n (bit_xor word bits) 0 (λ (here : n ≡ number). eqb-false number n e (sym here))
        ∙ (same n
        ∙ (sym (xor_zero_r (word_of old n))
        ∙ sym (ap (λ (b : Bool). bit_xor (word_of old n) (cond b bits 0)) e)))

pub past_off : (row : List ℕ) (place : ℕ) → length row ≤ place / 64 → is_on row place ≡ false
past_off row place le = no_bit (word_of row) place (get_or_past row (place / 64) 0 le)

-- ---- whether a row has all places of another

on_bit : (row : List ℕ) (i b : ℕ) → b < 64 → is_on row (i * 64 + b) ≡ nat_eq (bit_at (get_or row i 0) b) 1
unfolding has_bit
on_bit row i b lt =
    let p : ℕ = i * 64 + b in
    let word : p / 64 ≡ i = omega arith in
    let bit : p % 64 ≡ b = omega arith in
    λ t. nat_eq (bit_at (get_or row (word t) 0) (bit t)) 1

implied : (a b : Bool) → (b ≡ true → a ≡ true) → (a && b) ≡ b
implied true b h = refl
implied false true h = absurd (let e : false ≡ true = h refl in cc)
implied false false h = refl

left_of : (a b : Bool) → (a && b) ≡ b → b ≡ true → a ≡ true
left_of true b h e = refl
left_of false b h e = h ∙ e

-- a word of a row has all bits of a row that it includes
pub left_out : (row other : List ℕ) (i x y : ℕ) → Includes row other → x ≡ get_or row i 0 → y ≡ get_or other i 0 → x < 2 ^ 64 → y < 2 ^ 64 → bit_and x y ≡ y
left_out row other i x y h e f a b =
    let le = and_le_l x y in
    same_from_bits_below 64 (bit_and x y) y (omega arith) b (λ k lt.
    one_bit (bit_at (bit_and x y) k) (bit_at y k) (bit_at-lt (bit_and x y) k) (bit_at-lt y k)
    (bits_of_both x y k
    ∙ implied (nat_eq (bit_at x k) 1) (nat_eq (bit_at y k) 1)
    (λ on.
    ap (λ (z : ℕ). nat_eq (bit_at z k) 1) e
    ∙ (sym (on_bit row i k lt) ∙ h (i * 64 + k) (on_bit other i k lt ∙ (ap (λ (z : ℕ). nat_eq (bit_at z k) 1) (sym f) ∙ on))))))

pub AreIn : (row other : List ℕ) (i : ℕ) → Type 0
AreIn row other i = (j : ℕ) → j < i → bit_and (get_or row j 0) (get_or other j 0) ≡ get_or other j 0

pub none_left_out : (row other : List ℕ) → AreIn row other 0
unfolding AreIn
none_left_out row other j lt = absurd (omega arith)

pub one_included : (row other : List ℕ) (i x y : ℕ) → AreIn row other i → x ≡ get_or row i 0 → y ≡ get_or other i 0 → bit_and x y ≡ y → AreIn row other (i + 1)
unfolding AreIn
one_included row other i x y h e f same j lt = ⊎_elim
    (λ (here : j ≡ i). (λ t. bit_and (get_or row (here t) 0) (get_or other (here t) 0)) ∙ ((λ t. bit_and (sym e t) (sym f t)) ∙ (same ∙ (f ∙ ap (λ (k : ℕ). get_or other k 0) (sym here)))))
    (λ apart. h j (omega (arith, apart)))
    (cases_eq j i)

pub all_included : (row other : List ℕ) (i : ℕ) → AreIn row other i → length other ≤ i → Includes row other
unfolding AreIn has_bit
all_included row other i h le p on = ⊎_elim
    (λ (lt : p / 64 < i).
    left_of (nat_eq (bit_at (get_or row (p / 64) 0) (p % 64)) 1) (nat_eq (bit_at (get_or other (p / 64) 0) (p % 64)) 1)
    (sym (bits_of_both (get_or row (p / 64) 0) (get_or other (p / 64) 0) (p % 64)) ∙ ap (λ (z : ℕ). nat_eq (bit_at z (p % 64)) 1) (h (p / 64) lt))
    on)
    (λ from. absurd (let no : false ≡ true = sym (past_off other p (omega arith)) ∙ on in cc))
    (which (p / 64) i)

pub nothing_included : (row : List ℕ) → Includes row []
nothing_included row p on = absurd (let no : false ≡ true = sym (past_off [] p (omega arith)) ∙ on in cc)

-- Numbers in groups of seven bits, the low group first.
use Rattle.std.proofs.Common.{◌≡◌, ℕ, zero, suc, ◌+◌, ◌*◌, ◌-◌, ◌^◌, ◌/◌, ◌%◌, ◌<◌, ◌≤◌, Bool, true, false, cond, ltb, eqb, ◌&&◌, ◌||◌, not, List, [], ◌∷◌, ◌++◌, Some, None, refl, ap, ◌∙◌, arith, inl, inr}
use Rattle.std.proofs.lemmas.Bool.{cases_lt, ltb-true, ltb-false, lt-ltb, le-ltb, eqb-true, eqb-false}
use Rattle.std.proofs.lemmas.List.{append-nil}
use Rattle.std.proofs.lemmas.Nat.{pow-add}
use Rattle.std.proofs.Math.Pow.{pow_mono}
use Rattle.byte_format.specs.Reading.{coded_at}
use Rattle.byte_format.specs.Spelling.{varint_text}
use Rattle.byte_format.specs.Varint.{group_from, after, varint_at, IsNumber}
use Rattle.byte_format.proofs.Readers.{Reads, then, reads_done, reads_as, reads_code}

-- ---- a group

group_law : (bits : ℕ) (only : Bool) (b a : ℕ) → group_from bits only b ≡ Some a → a ≡ b
group_law bits only b a e = by (ltb b 128) (ltb b (2 ^ bits) && (only || not (eqb b 0))) (ltb 7 bits && ltb b 256) e where
  by : (t u v : Bool) → cond t (cond u (Some b) None) (cond v (Some b) None) ≡ Some a → a ≡ b
  by true true v e = cc
  by true false v e = absurd cc
  by false u true e = cc
  by false u false e = absurd cc

-- a last group that was taken is a number
last_is : (bits : ℕ) (only : Bool) (b : ℕ) → b < 128 → group_from bits only b ≡ Some b → IsNumber bits only b
last_is bits only b lt e = by (ltb b (2 ^ bits)) (eqb b 0) refl refl (rw (lt-ltb b 128 lt) at e) where
  by : (t u : Bool) → ltb b (2 ^ bits) ≡ t → eqb b 0 ≡ u → cond (t && (only || not u)) (Some b) None ≡ Some b → IsNumber bits only b
  by false u fits is e = absurd cc
  by true false fits is e = (ltb-true _ _ fits, λ _. let ne = eqb-false b 0 is in omega (arith, ne))
  by true true fits is e = (ltb-true _ _ fits, λ others. let k : cond (only || false) (Some b) None ≡ Some b = e in absurd (none only others k)) where
    none : (only : Bool) → only ≡ false → cond (only || false) (Some b) None ≡ Some b → ⊥
    none true others k = cc
    none false others k = cc

inner_is : (bits : ℕ) (only : Bool) (b : ℕ) → 128 ≤ b → group_from bits only b ≡ Some b → (7 < bits) × (b < 256)
inner_is bits only b le e = by (ltb 7 bits) (ltb b 256) refl refl (rw (le-ltb b 128 le) at e) where
  by : (t u : Bool) → ltb 7 bits ≡ t → ltb b 256 ≡ u → cond (t && u) (Some b) None ≡ Some b → (7 < bits) × (b < 256)
  by false u more fits e = absurd cc
  by true false more fits e = absurd cc
  by true true more fits e = (ltb-true _ _ more, ltb-true _ _ fits)

is_last : (bits : ℕ) (only : Bool) (b : ℕ) → b < 128 → IsNumber bits only b → group_from bits only b ≡ Some b
is_last bits only b lt f = rw (lt-ltb b 128 lt, lt-ltb b (2 ^ bits) f.0) (by only (eqb b 0) refl f.1) where
  by : (only u : Bool) → eqb b 0 ≡ u → (only ≡ false → 0 < b) → cond (true && (only || not u)) (Some b) None ≡ Some b
  by true u is some = refl
  by false false is some = refl
  by false true is some = let zero_is = eqb-true b 0 is in let more = some refl in absurd (omega arith)

is_inner : (bits : ℕ) (only : Bool) (b : ℕ) → 128 ≤ b → 7 < bits → b < 256 → group_from bits only b ≡ Some b
is_inner bits only b le more lt = rw (le-ltb b 128 le, lt-ltb 7 bits more, lt-ltb b 256 lt) refl

one_fits : (bits : ℕ) (only : Bool) → 0 < bits → group_from bits only 1 ≡ Some 1
one_fits bits only some = is_last bits only 1 (omega arith) (let up : 2 ^ 1 ≤ 2 ^ bits = pow_mono some in omega (arith, up), λ _. omega arith)

reads_group : (bits : ℕ) (only : Bool) → 0 < bits → Reads (coded_at (group_from bits only)) (λ b. b ∷ []) (λ b. group_from bits only b ≡ Some b)
reads_group bits only some = reads_code (group_from bits only) (λ b. b) (group_law bits only) 1 (one_fits bits only some)

-- ---- a number

pub byte_of : ℕ → ℕ
byte_of n = cond (ltb n 128) n (n % 128 + 128)

abbrev pub after_text : Bool → ℕ → ℕ → List ℕ
after_text true groups n = []
after_text false groups n = varint_text groups (n / 128) ++ []

abbrev pub IsAfter : Bool → ℕ → ℕ → ℕ → Type 0
IsAfter true bits b n = n ≡ b
IsAfter false bits b n = IsNumber (bits - 7) false (n / 128) × (n ≡ b - 128 + 128 * (n / 128))

abbrev pub IsWhole : ℕ → Bool → ℕ → Type 0
IsWhole bits only n = (group_from bits only (byte_of n) ≡ Some (byte_of n)) × IsAfter (ltb (byte_of n) 128) bits (byte_of n) n

up7 : (bits : ℕ) → 7 < bits → 2 ^ bits ≡ 128 * 2 ^ (bits - 7)
up7 bits more = let k : bits ≡ 7 + (bits - 7) = omega arith in ap (λ n. 2 ^ n) k ∙ pow-add 2 7 (bits - 7)

low_byte : (n : ℕ) → n < 128 → byte_of n ≡ n
unfolding byte_of
low_byte n lt = rw (lt-ltb n 128 lt) refl

high_byte : (n : ℕ) → 128 ≤ n → byte_of n ≡ n % 128 + 128
unfolding byte_of
high_byte n le = rw (le-ltb n 128 le) refl

whole_text : (groups bits : ℕ) (only : Bool) (n : ℕ) → byte_of n ∷ after_text (ltb (byte_of n) 128) groups n ≡ varint_text (suc groups) n
unfolding varint_text
whole_text groups bits only n =
    elim (cases_lt n 128) [
      | inl lt ↦ rw (low_byte n lt, lt-ltb n 128 lt) refl
      | inr le ↦ let high : ltb (n % 128 + 128) 128 ≡ false = le-ltb (n % 128 + 128) 128 (omega arith) in rw (high_byte n le, high, le-ltb n 128 le) (ap (λ (z : List ℕ). (n % 128 + 128) ∷ z) (append-nil (varint_text groups (n / 128))))
    ]

whole_is : (bits : ℕ) (only : Bool) (n : ℕ) → IsWhole bits only n → IsNumber bits only n
whole_is bits only n f =
    elim (cases_lt n 128) [
      | inl lt ↦ last_is bits only n lt (rw (low_byte n lt) at f.0)
      | inr le ↦
          let high : ltb (n % 128 + 128) 128 ≡ false = le-ltb (n % 128 + 128) 128 (omega arith) in
          let group : group_from bits only (n % 128 + 128) ≡ Some (n % 128 + 128) = rw (high_byte n le) at f.0 in
          let inner = inner_is bits only (n % 128 + 128) (omega arith) group in
          let rest : IsAfter false bits (n % 128 + 128) n = rw (high_byte n le, high) at f.1 in
          let up = up7 bits inner.0 in
          (omega (arith, up, rest.0.0), λ _. omega arith)
    ]

is_whole : (bits : ℕ) (only : Bool) (n : ℕ) → IsNumber bits only n → IsWhole bits only n
is_whole bits only n f =
    elim (cases_lt n 128) [
      | inl lt ↦
          let after : IsAfter (ltb n 128) bits n n = rw (lt-ltb n 128 lt) refl in
          rw (low_byte n lt) (is_last bits only n lt f, after)
      | inr le ↦
          let high : ltb (n % 128 + 128) 128 ≡ false = le-ltb (n % 128 + 128) 128 (omega arith) in
          let more = long bits n le f.0 in
          let up = up7 bits more in
          let after : IsAfter (ltb (n % 128 + 128) 128) bits (n % 128 + 128) n = rw high ((omega (arith, up, f.0), λ _. omega arith), omega arith) in
          rw (high_byte n le) (is_inner bits only (n % 128 + 128) (omega arith) more (omega arith), after)
    ]
  where
    long : (bits n : ℕ) → 128 ≤ n → n < 2 ^ bits → 7 < bits
    long bits n le lt = elim (cases_lt 7 bits) [
      | inl more ↦ more
      | inr few ↦ let up : 2 ^ bits ≤ 2 ^ 7 = pow_mono few in absurd (omega (arith, up))
    ]

after_same : (bits : ℕ) (only : Bool) (b n : ℕ) → group_from bits only b ≡ Some b → IsAfter (ltb b 128) bits b n → byte_of n ≡ b
after_same bits only b n group f =
    elim (cases_lt b 128) [
      | inl lt ↦ let same : n ≡ b = rw (lt-ltb b 128 lt) at f in low_byte n (omega arith) ∙ same
      | inr le ↦
          let inner = inner_is bits only b le group in
          let rest : IsAfter false bits b n = rw (le-ltb b 128 le) at f in
          let some : 0 < n / 128 = rest.0.1 refl in
          high_byte n (omega arith) ∙ omega (arith, rest.1)
    ]

reads_after : (groups bits : ℕ) (only : Bool) (b : ℕ) (t : Bool) → ltb b 128 ≡ t → group_from bits only b ≡ Some b → (7 < bits → Reads (varint_at groups (bits - 7) false) (varint_text groups) (IsNumber (bits - 7) false))
    → Reads (after t b (varint_at groups (bits - 7) false)) (after_text t groups) (IsAfter t bits b)
unfolding after
reads_after groups bits only b true is group more = reads_done b
reads_after groups bits only b false is group more =
    let inner = inner_is bits only b (ltb-false b 128 is) group in
    then (λ n. n / 128) (more inner.0) (λ high _. reads_done (b - 128 + 128 * high)) (λ high n _ e. omega (arith, e))

pub reads_varint : (groups bits : ℕ) (only : Bool) → bits ≤ 7 * groups → 0 < bits → Reads (varint_at groups bits only) (varint_text groups) (IsNumber bits only)
unfolding varint_at
reads_varint zero bits only le some = absurd (omega arith)
reads_varint (suc groups) bits only le some = reads_as (varint_at (suc groups) bits only) _ (varint_text (suc groups)) _ (IsNumber bits only)
    (then byte_of (reads_group bits only some) (λ b group. reads_after groups bits only b (ltb b 128) refl group (λ more. reads_varint groups (bits - 7) false (omega arith) (omega arith))) (λ b n group f. after_same bits only b n group f))
    (λ n f. whole_text groups bits only n) (whole_is bits only) (is_whole bits only)

-- What an area has at its addresses, and numbers by their bytes.
use Rattle.std.proofs.Common.{◌≡◌, ◌≢◌, ◌↔◌, ℕ, zero, suc, ◌+◌, ◌-◌, ◌*◌, ◌/◌, ◌%◌, ◌^◌, ◌<◌, ◌≤◌, ◌⊎◌, true, false, cond, ltb, leb, List, length, get_or, Option, Some, None, refl, ap, sym, ◌∙◌, inl, inr, arith, add-one, lit<}
use native.Mathlib.Nat.{pow-suc, pow-succ', pow-le-pow_right}
use Rattle.std.proofs.Math.Nat.{div-div-eq-div-mul, div-eq_of_lt}
use Rattle.std.proofs.lemmas.Bool.{cases_lt, lt-ltb, le-ltb, le-leb, lt-leb, cond-true, cond-false, and_from, and_left, and_right}
use Rattle.marks.specs.declared.range.Range.{Range}
use Rattle.marks.specs.Ranges.{covers}
use Rattle.space_memory_bytes.specs.Numbers.{digit}
use Rattle.space_memory_bytes.specs.Areas.{cell}
use Rattle.space_memory_bytes.specs.Marks.{AreLive, HasDigits, PutsAt}
use Rattle.space_memory_bytes.specs.AreaChanges.{IsLiveRun, IsNumber, ChangesArea}

-- an address is covered by a range or lies before or after it
pub cover_cases : (r : Range) (x : ℕ) → record { is : covers r x ≡ true; from : r.addr ≤ x; below : x < r.addr + r.len } ⊎ record { is : covers r x ≡ false; out : (x < r.addr) ⊎ (r.addr + r.len ≤ x) }
cover_cases r x = elim (cases_lt x r.addr) [
  | inl before ↦ inr (record { is = and_left (leb r.addr x) (ltb x (r.addr + r.len)) (lt-leb r.addr x before); out = inl before })
  | inr from ↦ elim (cases_lt x (r.addr + r.len)) [
    | inl below ↦ inl (record { is = and_from (leb r.addr x) (ltb x (r.addr + r.len)) (le-leb r.addr x from) (lt-ltb x (r.addr + r.len) below); from = from; below = below })
    | inr after ↦ inr (record { is = and_right (leb r.addr x) (ltb x (r.addr + r.len)) (le-ltb x (r.addr + r.len) after); out = inr after })
  ]
]

-- a change of its cells is one of the area
pub changes_area : (base at addr n m : ℕ) (bytes : ℕ → Option ℕ) (old new : List (Option ℕ)) → base + at ≡ addr → m ≡ n → PutsAt at m bytes old new → ChangesArea addr n bytes (record { base = base; cells = old }) (record { base = base; cells = new })
changes_area base at addr n m bytes old new place same puts = record {
  extent = record { base = refl; size = puts.size };
  bytes_are = λ x from.
      let r : Range = record { addr = addr; len = n } in
      let q : Range = record { addr = at; len = m } in
      let before : Option ℕ = get_or old (x - base) None in
      puts.cells (x - base) ∙ elim (cover_cases r x) as (λ _. cond (covers q (x - base)) (bytes (x - base - at)) before ≡ cond (covers r x) (bytes (x - addr)) before) [
        | inl in' ↦ elim (cover_cases q (x - base)) as (λ _. cond (covers q (x - base)) (bytes (x - base - at)) before ≡ cond (covers r x) (bytes (x - addr)) before) [
          | inl in'' ↦ cond-true (covers q (x - base)) (bytes (x - base - at)) before in''.is ∙ ap bytes (omega arith) ∙ sym (cond-true (covers r x) (bytes (x - addr)) before in'.is)
          | inr out ↦ absurd (elim out.out [ inl low ↦ omega (arith, in'.from) | inr high ↦ omega (arith, in'.below) ])
        ]
        | inr out ↦ elim (cover_cases q (x - base)) as (λ _. cond (covers q (x - base)) (bytes (x - base - at)) before ≡ cond (covers r x) (bytes (x - addr)) before) [
          | inl in'' ↦ absurd (elim out.out [ inl low ↦ omega (arith, in''.from) | inr high ↦ omega (arith, in''.below) ])
          | inr out' ↦ cond-false (covers q (x - base)) (bytes (x - base - at)) before out'.is ∙ sym (cond-false (covers r x) (bytes (x - addr)) before out.is)
        ]
      ];
}

-- what its cells have from a place on, it has from an address on
pub run_is : (base at addr n : ℕ) (cells : List (Option ℕ)) → base + at ≡ addr → AreLive cells at n ↔ IsLiveRun (record { base = base; cells = cells }) addr n
run_is base at addr n cells place = (
  λ live i lt none. live i lt (ap (λ k. get_or cells k None) (omega arith) ∙ none),
  λ live i lt none. live i lt (ap (λ k. get_or cells k None) (omega arith) ∙ none),
)

pub cell_from : (base at addr i : ℕ) (cells : List (Option ℕ)) → base + at ≡ addr → cell (record { base = base; cells = cells }) (addr + i) ≡ get_or cells (at + i) None
cell_from base at addr i cells place = ap (λ k. get_or cells k None) (omega arith)

pub number_from : (base at addr n value : ℕ) (cells : List (Option ℕ)) → base + at ≡ addr → HasDigits cells at n value → IsNumber (record { base = base; cells = cells }) addr n value
number_from base at addr n value cells place digits i lt = cell_from base at addr i cells place ∙ digits i lt

-- a number with one low byte more
pub digit_low : (byte high : ℕ) → byte < 256 → digit (high * 256 + byte) 0 ≡ byte
digit_low byte high small = omega arith

pub digit_high : (byte high i : ℕ) → byte < 256 → digit (high * 256 + byte) (i + 1) ≡ digit high i
digit_high byte high i small =
    let whole : (high * 256 + byte) / 256 ≡ high = omega arith in
    let split : (high * 256 + byte) / 256 ^ (i + 1) ≡ high / 256 ^ i =
    ap (λ d. (high * 256 + byte) / d) (rw (add-one, pow-succ') refl) ∙ sym (div-div-eq-div-mul (high * 256 + byte) 256 (256 ^ i)) ∙ ap (λ q. q / 256 ^ i) whole in
    ap (λ q. q % 256) split

-- the number of one byte more fits in one byte more
pub fits_more : (value byte n m : ℕ) → m ≡ n + 1 → byte < 256 → value < 256 ^ n → value * 256 + byte < 256 ^ m
fits_more value byte n m one small fits = rw (one, add-one, pow-suc) (omega arith)

-- and up to eight bytes in 64 bits
pub fits_word : (value n : ℕ) → n < 8 → value < 256 ^ n → value * 256 + 255 < 2 ^ 64
fits_word value n few fits =
    let bound : 256 ^ n ≤ 256 ^ 7 = pow-le-pow_right (lit< tt) {i = n} {j = 7} (omega arith) in
    omega arith

-- the digits of a number with one low byte more
pub digits_more : (bytes : List ℕ) (at place n m value byte : ℕ) → m ≡ n + 1 → place + 1 ≡ at → byte < 256 → byte ≡ get_or bytes place 0 → ((i : ℕ) → i < n → digit value i ≡ get_or bytes (at + i) 0) → (i : ℕ) → i < m → digit (value * 256 + byte) i ≡ get_or bytes (place + i) 0
digits_more bytes at place n m value byte one next small here above zero lt =
    digit_low byte value small ∙ here ∙ ap (λ k. get_or bytes k 0) (omega arith)
digits_more bytes at place n m value byte one next small here above (suc i) lt =
    ap (λ k. digit (value * 256 + byte) k) (sym (add-one i)) ∙ digit_high byte value i small ∙ above i (omega arith) ∙ ap (λ k. get_or bytes k 0) (omega arith)

-- a number without its low byte
digit_rest : (value i : ℕ) → digit (value / 256) i ≡ digit value (i + 1)
digit_rest value i = ap (λ q. q % 256) (div-div-eq-div-mul value 256 (256 ^ i) ∙ ap (λ d. value / d) (sym (rw (add-one, pow-succ') refl)))

rest_fits : (value n : ℕ) → value < 256 ^ suc n → value / 256 < 256 ^ n
rest_fits value n fits =
    let more : 256 ^ suc n ≡ 256 ^ n * 256 = rw pow-suc (omega arith) in
    omega (arith, more, fits)

-- numbers of so many bytes with the same bytes are the same
pub same_digits : (n a b : ℕ) → a < 256 ^ n → b < 256 ^ n → ((i : ℕ) → i < n → digit a i ≡ digit b i) → a ≡ b
same_digits zero a b fits_a fits_b same = omega (arith, fits_a, fits_b)
same_digits (suc n) a b fits_a fits_b same =
    let low : a % 256 ≡ b % 256 = omega (arith, same 0 (omega arith)) in
    let high : a / 256 ≡ b / 256 = same_digits n (a / 256) (b / 256) (rest_fits a n fits_a) (rest_fits b n fits_b) (λ i lt. digit_rest a i ∙ same (i + 1) (omega arith) ∙ sym (digit_rest b i)) in
    omega (arith, low, high)

-- a number of 64 bits has no byte past the eighth
pub digit_past : (value i : ℕ) → value < 2 ^ 64 → 8 ≤ i → digit value i ≡ 0
digit_past value i fits past =
    let bound : 256 ^ 8 ≤ 256 ^ i = pow-le-pow_right (lit< tt) {i = 8} {j = i} past in
    let none : value / 256 ^ i ≡ 0 = div-eq_of_lt (omega (arith, bound)) in
    ap (λ q. q % 256) none

-- Bytes that were written, in memory and in a run.
use Rattle.std.proofs.Common.{◌≡◌, ℕ, ◌+◌, ◌-◌, ◌<◌, ◌≤◌, Bool, true, false, cond, List, [], ◌∷◌, ◌++◌, length, replicate, Option, Some, None, ◌⊎◌, inl, inr, refl, ap, sym, ◌∙◌, subst, arith}
use Rattle.std.proofs.lemmas.Bool.{cond-true, cond-false}
use Rattle.std.proofs.lemmas.List.{get_or-replicate, length-replicate}
use Rattle.marks.specs.declared.range.Range.{Range}
use Rattle.marks.specs.Ranges.{Piece, range, covers, bytes_of_number}
use Rattle.marks.specs.Ranges as marks
use Rattle.space_memory_bytes.specs.Areas.{AreaState, byte_at}
use Rattle.space_memory_bytes.specs.Numbers.{HasNumber, HasBytes, SameOutside}
use Rattle.space_memory_laws.proofs.Cells.{cover_cases, cover_parts}
use Rattle.space_memory_laws.proofs.Digits.{count, digit_is}
use Rattle.space_memory_laws.proofs.Regions.{some_none}
use Rattle.whole_runs.specs.Memory.{written, filled}
use Rattle.whole_runs.specs.Steps.{zeros}

-- the bytes of a number are a list of bytes
pub number_bytes : (bytes : List AreaState) (addr width value : ℕ) → HasNumber bytes addr width value → HasBytes bytes addr (bytes_of_number width value)
number_bytes bytes addr width value has i lt =
    let few : i < width = omega (arith, lt, count width value) in
    has i few ∙ ap (λ v. Some v) (sym (digit_is width value i few))

pub outside_number : (r : Range) (old new : List AreaState) (value : ℕ) → SameOutside r old new → SameOutside (range r.addr (length (bytes_of_number r.len value))) old new
outside_number r old new value same = subst (λ n. SameOutside (range r.addr n) old new) (sym (count r.len value)) same

-- a byte of such a list
pub bytes_byte : (bytes : List AreaState) (addr : ℕ) (values : List ℕ) (x : ℕ) → HasBytes bytes addr values →
    covers (range addr (length values)) x ≡ true → byte_at bytes x ≡ Some (marks.byte_at addr values x)
bytes_byte bytes addr values x has c =
    let p = cover_parts (range addr (length values)) x c in
    let at : addr + (x - addr) ≡ x = omega (arith, p.0) in
    ap (byte_at bytes) (sym at) ∙ has (x - addr) (omega (arith, p.0, p.1))

-- memory after a list of bytes was written
pub written_is : (old new : List AreaState) (addr : ℕ) (values : List ℕ) (x : ℕ) (v : Option ℕ) → HasBytes new addr values →
    SameOutside (range addr (length values)) old new → byte_at old x ≡ v → byte_at new x ≡ written addr values x v
written_is old new addr values x v has same was = elim (cover_cases (range addr (length values)) x) [
  | inl in' ↦ bytes_byte new addr values x has in'.is ∙ sym (cond-true (covers (range addr (length values)) x) _ _ in'.is)
  | inr out ↦ same.bytes x out.is ∙ was ∙ sym (cond-false (covers (range addr (length values)) x) _ _ out.is)
]

-- the last piece comes last
pub filled_more : (ps : List Piece) (p : Piece) (x : ℕ) (v : Option ℕ) → filled (ps ++ p ∷ []) x v ≡ filled (p ∷ []) x (filled ps x v)
filled_more [] p x v = refl
filled_more (q ∷ ps) p x v = filled_more ps p x (cond (covers q.range x) (written q.range.addr q.bytes x v) v)

-- a piece that fits in its range is its bytes
pub fits_filled : (r : Range) (bytes : List ℕ) (x : ℕ) (v : Option ℕ) → length bytes ≤ r.len → filled (record { range = r; bytes = bytes } ∷ []) x v ≡ written r.addr bytes x v
fits_filled r bytes x v fits = elim (cover_cases r x) [
  | inl in' ↦ cond-true (covers r x) _ _ in'.is
  | inr out ↦ cond-false (covers r x) _ _ out.is ∙ sym (cond-false (covers (range r.addr (length bytes)) x) _ _ (not_there out.out))
]
  where
    not_there : (x < r.addr) ⊎ (r.addr + r.len ≤ x) → covers (range r.addr (length bytes)) x ≡ false
    not_there out = elim (cover_cases (range r.addr (length bytes)) x) [
      | inl in' ↦ absurd (elim out [ inl low ↦ omega (arith, low, in'.from) | inr high ↦ omega (arith, high, in'.below, fits) ])
      | inr out' ↦ out'.is
    ]

-- where nothing is after pieces, nothing was before them
none_before : (b c : Bool) (n : ℕ) (v : Option ℕ) → cond b (cond c (Some n) v) v ≡ None → v ≡ None
none_before true true n v e = absurd (some_none n e)
none_before true false n v e = e
none_before false c n v e = e

pub filled_none : (ps : List Piece) (x : ℕ) (v : Option ℕ) → filled ps x v ≡ None → v ≡ None
filled_none [] x v e = e
filled_none (p ∷ ps) x v e =
    none_before (covers p.range x) (covers (range p.range.addr (length p.bytes)) x) (marks.byte_at p.range.addr p.bytes x) v
    (filled_none ps x (cond (covers p.range x) (written p.range.addr p.bytes x v) v) e)

-- a piece of zeros
pub zeros_are : (addr n x : ℕ) (v : Option ℕ) → filled (zeros addr n) x v ≡ cond (covers (range addr n) x) (Some 0) v
zeros_are addr n x v =
    fits_filled (range addr n) (replicate n 0) x v (omega (arith, count_is))
    ∙ ap (λ k. cond (covers (range addr k) x) (Some (marks.byte_at addr (replicate n 0) x)) v) count_is
    ∙ elim (cover_cases (range addr n) x) [
      | inl in' ↦
          cond-true (covers (range addr n) x) _ _ in'.is
          ∙ ap (λ b. Some b) (get_or-replicate n (x - addr) 0 0 (omega (arith, in'.from, in'.below)))
          ∙ sym (cond-true (covers (range addr n) x) _ _ in'.is)
      | inr out ↦ cond-false (covers (range addr n) x) _ _ out.is ∙ sym (cond-false (covers (range addr n) x) _ _ out.is)
    ]
  where
    count_is : length {A = ℕ} (replicate n 0) ≡ n
    count_is = length-replicate {A = ℕ} n 0

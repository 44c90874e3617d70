-- Numbers that are cut at the greatest of 64 bits.
use Rattle.std.proofs.Common.{◌≡◌, ℕ, ◌+◌, ◌-◌, ◌^◌, ◌<◌, ◌≤◌, Bool, true, false, List, [], ◌∷◌, map, ltb, refl, sym, ap, ◌∙◌, arith}
use Rattle.std.specs.Int.{next_multiple_of}
use borrow.Author.Tests.{ltb-false, ltb-true}
use Rattle.c_types_model.specs.declared.extent.Extent.{Extent}
use Rattle.c_types_model.specs.Layouts.{capped, offsets_from, end_from}

top : ℕ
top = 2 ^ 64 - 1

-- what is cut is past the greatest, or isn't changed
pub capped_sum : (n s : ℕ) → capped (capped n + s) ≡ capped (n + s)
capped_sum n s = omega arith

pub capped_sums : (n s : ℕ) → capped (capped n + capped s) ≡ capped (n + s)
capped_sums n s = omega arith

pub capped_multiple : (n a : ℕ) → capped (next_multiple_of (capped n) a) ≡ capped (next_multiple_of n a)
capped_multiple n a = by (ltb n (2 ^ 64)) refl
  where
    by : (t : Bool) → ltb n (2 ^ 64) ≡ t → capped (next_multiple_of (capped n) a) ≡ capped (next_multiple_of n a)
    by true e =
        let less : n < 2 ^ 64 = ltb-true n (2 ^ 64) e in
        let same : capped n ≡ n = omega arith in
        ap (λ m. capped (next_multiple_of m a)) same
    by false e =
        let more : 2 ^ 64 ≤ n = ltb-false n (2 ^ 64) e in
        omega arith

pub offsets_capped : (ms : List Extent) (n : ℕ) → map capped (offsets_from (capped n) ms) ≡ map capped (offsets_from n ms)
offsets_capped [] n = refl
offsets_capped (m ∷ ms) n =
    let head = capped_multiple n m.align in
    let next = sym (capped_sum (next_multiple_of (capped n) m.align) m.size) ∙ (ap (λ x. capped (x + m.size)) head ∙ capped_sum (next_multiple_of n m.align) m.size) in
    let tail = sym (offsets_capped ms (next_multiple_of (capped n) m.align + m.size)) ∙ (ap (λ x. map capped (offsets_from x ms)) next ∙ offsets_capped ms (next_multiple_of n m.align + m.size)) in
    ap (λ x. x ∷ map capped (offsets_from (next_multiple_of (capped n) m.align + m.size) ms)) head ∙ ap (λ xs. capped (next_multiple_of n m.align) ∷ xs) tail

pub end_capped : (ms : List Extent) (n : ℕ) → capped (end_from (capped n) ms) ≡ capped (end_from n ms)
end_capped [] n = omega arith
end_capped (m ∷ ms) n =
    let head = capped_multiple n m.align in
    let next = sym (capped_sum (next_multiple_of (capped n) m.align) m.size) ∙ (ap (λ x. capped (x + m.size)) head ∙ capped_sum (next_multiple_of n m.align) m.size) in
    sym (end_capped ms (next_multiple_of (capped n) m.align + m.size)) ∙ (ap (λ x. capped (end_from x ms)) next ∙ end_capped ms (next_multiple_of n m.align + m.size))

-- The places of a pool, one after the other.
use Rattle.std.proofs.Common.{◌≡◌, ◌⊎◌, ◌↔◌, ℕ, ◌+◌, ◌*◌, ◌%◌, ◌≤◌, ◌<◌, Bool, true, false, ◌&&◌, ◌||◌, not, leb, ltb, List, [], ◌∷◌, inl, inr, refl, sym, ap, ◌∙◌, arith, le-leb, leb-true, lt-ltb, ltb-true, ltb-false}
use Rattle.std.proofs.lemmas.Bool.{cases_eq, true≢false, and_parts, and_from}
use Rattle.marks.specs.Places.{pool_size}
use Rattle.marks.specs.declared.range.Range.{Range}
use Rattle.replay_runs.specs.Pool.{Fits, MeetsNone}
use Rattle.reference_recorder_places.specs.Tests.{fits, meets_any}

-- ---- the tests

-- two stretches of addresses are apart, or they meet
apart : (a b c d : ℕ) (p q more : Bool) {P : Type 0} → ltb c b ≡ p → ltb a d ≡ q → (more ≡ false) ↔ P →
    (((p && q) || more) ≡ false) ↔ (((b ≤ c) ⊎ (d ≤ a)) × P)
apart a b c d true true more p q is = (
  λ e. absurd (true≢false e),
  λ h. absurd (elim h.0 [
    | inl before ↦ (let lt : c < b = ltb-true c b p in omega (arith, lt, before))
    | inr after ↦ (let lt : a < d = ltb-true a d q in omega (arith, lt, after))
  ]),
)
apart a b c d true false more p q is = (λ e. (inr (ltb-false a d q), is.0 e), λ h. is.1 h.1)
apart a b c d false q more p r is = (λ e. (inl (ltb-false c b p), is.0 e), λ h. is.1 h.1)

none_met : (bs : List Range) (at size : ℕ) → (meets_any bs at size ≡ false) ↔ MeetsNone bs at size
none_met [] at size = (λ e. tt, λ u. refl)
none_met (b ∷ bs) at size =
    apart b.addr (b.addr + b.len) at (at + size) (ltb at (b.addr + b.len)) (ltb b.addr (at + size)) (meets_any bs at size) refl refl (none_met bs at size)

negated : (b : Bool) → not b ≡ true → b ≡ false
negated true e = absurd (true≢false (sym e))
negated false e = refl

fits_from : (pool : ℕ) (bs : List Range) (size at : ℕ) → at % 16 ≡ 0 → pool ≤ at → fits pool bs size at ≡ true →
    Fits pool bs size at
fits_from pool bs size at aligned low e =
    let a = and_parts (ltb 0 size) (leb (at + size) (pool + pool_size) && not (meets_any bs at size)) e in
    let b = and_parts (leb (at + size) (pool + pool_size)) (not (meets_any bs at size)) a.1 in
    let some : 0 < size = ltb-true 0 size a.0 in
    record {
      some = omega (arith, some);
      aligned = aligned;
      low = low;
      high = leb-true (at + size) (pool + pool_size) b.0;
      free = (none_met bs at size).0 (negated (meets_any bs at size) b.1);
    }

fits_is : (pool : ℕ) (bs : List Range) (size at : ℕ) → Fits pool bs size at → fits pool bs size at ≡ true
fits_is pool bs size at h =
    let some : 0 < size = (let one = h.some in omega (arith, one)) in
    and_from (ltb 0 size) (leb (at + size) (pool + pool_size) && not (meets_any bs at size)) (lt-ltb 0 size some)
    (and_from (leb (at + size) (pool + pool_size)) (not (meets_any bs at size)) (le-leb (at + size) (pool + pool_size) h.high) (ap not ((none_met bs at size).1 h.free)))

-- ---- the places

-- two multiples of 16
next_multiple : (a b : ℕ) → a % 16 ≡ 0 → b % 16 ≡ 0 → a < b → a + 16 ≤ b
next_multiple a b p q lt = omega arith

aligned_step : (pool step : ℕ) → pool % 16 ≡ 0 → (pool + step * 16) % 16 ≡ 0
aligned_step pool step h = omega arith

pub first_place : (pool : ℕ) (bs : List Range) (size x : ℕ) → Fits pool bs size x → pool + 0 * 16 ≤ x
first_place pool bs size x h = let low = h.low in omega (arith, low)

pub place_fits : (pool : ℕ) (bs : List Range) (size step : ℕ) → pool % 16 ≡ 0 →
    fits pool bs size (pool + step * 16) ≡ true → Fits pool bs size (pool + step * 16)
place_fits pool bs size step aligned e =
    fits_from pool bs size (pool + step * 16) (aligned_step pool step aligned) (omega arith) e

-- a place that fits isn't before this one, nor is it this one, so it isn't before the next
pub next_place : (pool : ℕ) (bs : List Range) (size step x : ℕ) → pool % 16 ≡ 0 → Fits pool bs size x →
    pool + step * 16 ≤ x → fits pool bs size (pool + step * 16) ≡ false → pool + (step + 1) * 16 ≤ x
next_place pool bs size step x aligned h le not_here = elim (cases_eq (pool + step * 16) x) [
  | inl here ↦ absurd (true≢false (sym (fits_is pool bs size x h) ∙ ap (fits pool bs size) (sym here) ∙ not_here))
  | inr other ↦ (let more = next_multiple (pool + step * 16) x (aligned_step pool step aligned) h.aligned (omega (arith, le, other)) in omega (arith, more))
]

pub after_end : (pool : ℕ) (bs : List Range) (size step x : ℕ) → Fits pool bs size x → pool + step * 16 ≤ x →
    65536 ≤ step → ⊥
after_end pool bs size step x h le end = let a = h.some in let b = h.high in omega (arith, a, b, le, end)

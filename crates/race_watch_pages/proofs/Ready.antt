-- Cells that can be filled.
use Rattle.std.proofs.Common.{◌≡◌, ℕ, ◌+◌, ◌*◌, ◌/◌, ◌<◌, ◌≤◌, Bool, true, false, min, ◌⊎◌, inl, inr, ⊎_elim, refl, arith}
use Rattle.std.specs.Prelude.{nat_lt}
use Rattle.std.proofs.lemmas.Bool.Decides.{nat_tests}
use Rattle.race_watch_pages.specs.declared.pages.Pages.{Pages}
use Rattle.race_watch_pages.specs.Kept.{IsThere, IsSplit, IsReady}

-- one part more
pub ready_more : (m n : Pages) (from at stop : ℕ) → from ≤ at → at ≤ stop → ((p : ℕ) → IsThere m p → IsThere n p) → ((p : ℕ) → IsSplit m p → IsSplit n p) → IsReady m from at → IsReady n at stop → IsReady n from stop
ready_more m n from at stop low high there split h more c a b = go (nat_lt c at) refl
  where
    go : (v : Bool) → nat_lt c at ≡ v → (IsSplit n (c / 256)) ⊎ (IsThere n (c / 256) × (from ≤ c / 4 * 4) × (c / 4 * 4 + 4 ≤ stop))
    go true t =
        let lt : c < at = grind (arith, nat_tests, t) in
        ⊎_elim (λ s. inl (split (c / 256) s)) (λ w. inr (there (c / 256) w.0, w.1, omega (arith, w.2, high))) (h c a lt)
    go false t =
        let le : at ≤ c = grind (arith, nat_tests, t) in
        ⊎_elim (λ s. inl s) (λ w. inr (w.0, omega (arith, w.1, low), w.2)) (more c le b)

-- a part of one page
pub ready_part : (m : Pages) (at stop to : ℕ) → stop ≡ min to (at / 256 * 256 + 256) → IsReady m at to → IsReady m at stop
ready_part m at stop to is h c a b =
    ⊎_elim (λ s. inl s) (λ w. inr (w.0, w.1, omega (arith, is, a, b, w.2))) (h c a (omega (arith, is, b)))

-- what is left after it
pub ready_rest : (m n : Pages) (at stop to : ℕ) → at < to → stop ≡ min to (at / 256 * 256 + 256) → ((p : ℕ) → IsThere m p → IsThere n p) → ((p : ℕ) → IsSplit m p → IsSplit n p) → IsReady m at to → IsReady n stop to
ready_rest m n at stop to lt is there split h c a b =
    ⊎_elim (λ s. inl (split (c / 256) s)) (λ w. inr (there (c / 256) w.0, omega (arith, is, a, b, w.1), w.2)) (h c (omega (arith, is, a, lt)) b)

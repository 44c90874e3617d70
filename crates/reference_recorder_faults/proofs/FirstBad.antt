-- The first bad one of ranges, and the ranges that a call holds.
use Rattle.std.proofs.Common.{◌≡◌, ◌⊎◌, inl, inr, ℕ, zero, suc, ◌+◌, ◌<◌, Bool, true, false, ◌||◌, List, [], ◌∷◌, ◌++◌, length, get_or, take, Option, Some, None, is_some, refl, sym, ap, ◌∙◌, subst, arith, append_assoc, length-append}
use Rattle.std.proofs.Math.Seq.{get_or-append_seam, take-append_seam}
use Rattle.std.proofs.lemmas.Bool.{cases_order, true≢false}
use Rattle.std.proofs.lemmas.List.{get_or_append_left, map-append, take_more}
use Rattle.std.specs.Prelude.{◌↔◌}
use Rattle.marks.specs.declared.range.Range.{Range}
use Rattle.marks.specs.Ranges.{Prepared, any_range, covers, prepared_ranges}
use Rattle.replay_runs.specs.Rules.{SomeConstant}
use Rattle.replay_runs.specs.Checks.{Done, constant_check}
use Rattle.reference_recorder_scans.specs.Found.{IsLeastBad}
use Rattle.reference_recorder_findings.specs.declared.finding.Finding.{Finding}
use Rattle.reference_recorder_findings.specs.Findings.{IsFound}
use Rattle.reference_recorder_faults.specs.Ranges.{IsFirstBad, IsPlaceOfBad, no_range}

-- what one of the ranges covers, they do
pub covered_by_one : (rs : List Range) (k x : ℕ) → k < length rs → covers (get_or rs k no_range) x ≡ true → any_range rs x ≡ true
covered_by_one [] k x lt e = absurd (omega (arith, lt))
covered_by_one (r ∷ rs) zero x lt e = ap (λ b. b || any_range rs x) e
covered_by_one (r ∷ rs) (suc k) x lt e = ap (λ b. covers r x || b) (covered_by_one rs k x (omega (arith, lt)) e) ∙ or_true (covers r x)
  where
    or_true : (b : Bool) → (b || true) ≡ true
    or_true true = refl
    or_true false = refl

module _ (Bad : Range → Type 0) (before after : List Range) (r : Range) (bad : Bad r) where
  abbrev all : List Range
  all = before ++ r ∷ after

  here : length before < length all
  here = let n = length-append before (r ∷ after) in omega (arith, n)

  -- one of them is
  pub some_bad : IsPlaceOfBad Bad all None → ⊥
  some_bad none = none (length before) here (subst Bad (sym (get_or-append_seam before r after no_range)) bad)

  -- the first one is where those before it are good
  pub first_bad : ((k : ℕ) → k < length before → Bad (get_or before k no_range) → ⊥) → (place : ℕ) → IsFirstBad Bad all place →
      (take place all ≡ before) × (get_or all place no_range ≡ r)
  first_bad good place first = by (cases_order place (length before))
    where
      at : place ≡ length before → (take place all ≡ before) × (get_or all place no_range ≡ r)
      at e = (ap (λ k. take k all) e ∙ take-append_seam before (r ∷ after), ap (λ k. get_or all k no_range) e ∙ get_or-append_seam before r after no_range)

      by : (place ≡ length before) ⊎ ((place < length before) ⊎ (length before < place)) → (take place all ≡ before) × (get_or all place no_range ≡ r)
      by (inl e) = at e
      by (inr (inl lt)) = absurd (good place lt (subst Bad (get_or_append_left before (r ∷ after) no_range place lt) first.bad))
      by (inr (inr gt)) = absurd (first.before (length before) gt (subst Bad (sym (get_or-append_seam before r after no_range)) bad))

-- ---- one of them

-- a byte of the range is bad where one is found
pub bad_found : (r : Range) (P : ℕ → Type 0) (o : Option ℕ) → IsLeastBad (λ x. (covers r x ≡ true) × P x) o → (is_some o ≡ true) ↔ ((x : ℕ) × (covers r x ≡ true) × P x)
bad_found r P None none = (λ e. absurd (true≢false (sym e)), λ s. absurd (none s.0 (s.1, s.2)))
bad_found r P (Some a) h = (λ e. (a, h.0.0, h.0.1), λ s. refl)

pub constant_found : (r : Range) (o : Option Finding) → IsFound (constant_check true r Done) o → (is_some o ≡ true) ↔ SomeConstant r
constant_found r None none = (λ e. absurd (true≢false (sym e)), λ s. absurd (none.0 s.0 (s.1, refl, s.2)))
constant_found r (Some f) (inl h) = (λ e. (h.0, h.1.0.0, h.1.0.2), λ s. refl)
constant_found r (Some f) (inr h) = absurd h.1

-- ---- those that are held

pub ranges_more : (outs held : List Range) (ps : List Prepared) (i : ℕ) (p : Prepared) (r : Range) → i < length ps → p ≡ get_or ps i p → r ≡ p.range →
    held ≡ outs ++ prepared_ranges (take i ps) → held ++ r ∷ [] ≡ outs ++ prepared_ranges (take (i + 1) ps)
ranges_more outs held ps i p r lt is range_is before =
    (λ j. before j ++ range_is j ∷ [])
    ∙ (append_assoc outs (prepared_ranges (take i ps)) (p.range ∷ [])
    ∙ ap (λ rs. outs ++ rs)
    (ap (λ (q : Prepared). prepared_ranges (take i ps) ++ q.range ∷ []) is
    ∙ sym (ap prepared_ranges (take_more ps i p lt) ∙ map-append (λ (q : Prepared). q.range) (take i ps) (get_or ps i p ∷ []))))

-- Regions of a call that are filled up to their used sizes.
use Rattle.std.proofs.Common.{◌≡◌, inl, inr, ℕ, zero, suc, ◌<◌, ◌≤◌, List, [], ◌∷◌, length, get_or, map, take, sym, ap, ◌∙◌, arith}
use Rattle.std.specs.Prelude.{slice_get, IsSomeAnd}
use Rattle.std.proofs.lemmas.List.{length-map}
use Rattle.marks.specs.declared.range.Range.{Range}
use Rattle.space_memory_bytes.specs.Areas.{AreaState}
use Rattle.space_memory_access.specs.declared.holder.Region.{Region}
use Rattle.space_memory.specs.Releases.{IsFilled, AllFilled, FirstUnfilled}

module _ (bytes : List AreaState) where
  -- the region at the place is
  abbrev pub IsFilledAt : List Region → List ℕ → ℕ → Type 0
  IsFilledAt rs used k = IsSomeAnd (slice_get rs k) (IsFilled bytes (get_or used k 0))

  pub all_filled : (rs : List Region) (used : List ℕ) (n : ℕ) → n ≤ length rs → n ≤ length used → ((k : ℕ) → k < n → IsFilledAt rs used k) → AllFilled bytes (take n rs) used
  all_filled rs used zero le le' h = tt
  all_filled [] used (suc n) le le' h = absurd (omega (arith, le))
  all_filled (r ∷ rs) [] (suc n) le le' h = absurd (omega (arith, le'))
  all_filled (r ∷ rs) (u ∷ us) (suc n) le le' h = (h 0 (omega arith), all_filled rs us n (omega (arith, le)) (omega (arith, le')) (λ k lt. h (suc k) (omega (arith, lt))))

  pub first_unfilled : (rs : List Region) (outs : List Range) (used : List ℕ) (n j : ℕ) (d : Range) →
      map (λ (r : Region). r.range) rs ≡ outs → j < n → n ≤ length rs → n ≤ length used → ((k : ℕ) → k < j → IsFilledAt rs used k) →
      (IsFilledAt rs used j → ⊥) → FirstUnfilled bytes (take n rs) used (get_or outs j d).addr
  first_unfilled rs outs used zero j d are lt le le' h not = absurd (omega (arith, lt))
  first_unfilled [] outs used (suc n) j d are lt le le' h not = absurd (omega (arith, le))
  first_unfilled (r ∷ rs) outs [] (suc n) j d are lt le le' h not = absurd (omega (arith, le'))
  first_unfilled (r ∷ rs) [] (u ∷ us) (suc n) j d are lt le le' h not = absurd (none are)
    where
      none : ◌≡◌ {A = List Range} (map (λ (r : Region). r.range) (r ∷ rs)) [] → ⊥
      none e = absurd cc
  first_unfilled (r ∷ rs) (o ∷ outs) (u ∷ us) (suc n) zero d are lt le le' h not = let first : r.range ≡ o = cc in inl (not, sym (ap (λ (q : Range). q.addr) first))
  first_unfilled (r ∷ rs) (o ∷ outs) (u ∷ us) (suc n) (suc j) d are lt le le' h not =
      let rest : map (λ (q : Region). q.range) rs ≡ outs = cc in
      inr (h 0 (omega arith), first_unfilled rs outs us n j d rest (omega (arith, lt)) (omega (arith, le)) (omega (arith, le')) (λ k lt'. h (suc k) (omega (arith, lt'))) not)

-- the regions are as many as their ranges
pub count_of : (rs : List Region) (outs : List Range) → map (λ (r : Region). r.range) rs ≡ outs → length rs ≡ length outs
count_of rs outs are = sym (length-map rs (λ (r : Region). r.range)) ∙ ap length are

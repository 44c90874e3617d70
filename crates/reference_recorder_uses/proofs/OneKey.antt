-- What the checks of one key find.
use Rattle.std.proofs.Common.{◌≡◌, ◌≢◌, ◌⊎◌, ℕ, true, false, List, [], ◌∷◌, Option, Some, None, inl, inr, ⊎_elim, refl, sym, ap, subst, ◌∙◌, arith}
use Rattle.std.proofs.lemmas.Bool.{true≢false}
use Rattle.marks.specs.declared.breach.BreachKind.TheVariants.{KeyInUse, NoKey}
use Rattle.marks.specs.declared.range.Range.{Range}
use Rattle.marks.specs.Ranges.{Prepared}
use Rattle.marks.specs.Marks.{Mark}
use Rattle.replay_runs.specs.Runs.{Start}
use Rattle.replay_runs.specs.Pool.{in_use}
use Rattle.replay_runs.specs.Checks.{Done, any_number, key_checks}
use Rattle.whole_runs.specs.World.{World, begin}
use Rattle.whole_runs.specs.Sides.{seen}
use Rattle.reference_recorder_marks.specs.Marks.{without_origins}
use Rattle.reference_recorder_origins.proofs.Memory.{in_use_seen}
use Rattle.reference_recorder_findings.specs.declared.finding.Finding.{Finding}
use Rattle.reference_recorder_findings.specs.declared.finding.Finding.TheVariants.{Breach}
use Rattle.reference_recorder_findings.specs.Findings.{IsFound}
use Rattle.reference_recorder_uses.specs.Checks.{key_check}

pub region_at : (w : World) (p q : List Mark) (k : ℕ) → without_origins p ≡ q → in_use (begin w) k (seen q) ≡ in_use (begin w) k (seen p)
region_at w p q k same = ap (λ ms. in_use (begin w) k (seen ms)) (sym same) ∙ in_use_seen w k p

pub some_region : (o : Option Range) (r : Range) → o ≡ Some r → o ≡ None → ⊥
some_region o r e n = let bad : Some r ≡ None = sym e ∙ n in cc

module _ (s : Start) (past : List Mark) where
  module _ (more : List ℕ) (p : Prepared) where
    pub taken : (in_use s p.key past ≢ None) ⊎ (any_number more p.key ≡ true) → IsFound (key_checks s past more (p ∷ []) Done) (Some (Breach KeyInUse p.key None))
    taken h = inl (p.key, ((refl, h), λ y bad. let is = bad.0 in omega (arith, is)), refl)

    pub free : in_use s p.key past ≡ None → any_number more p.key ≡ false → IsFound (key_checks s past more (p ∷ []) Done) None
    free none other = (
      (λ k bad. ⊎_elim
          (λ used. used (ap (λ j. in_use s j past) bad.0 ∙ none))
          (λ listed. true≢false (sym listed ∙ (ap (any_number more) bad.0 ∙ other))) bad.1),
      tt,
    )

  -- of the key as it is read
  module _ (more : List ℕ) (p : Prepared) (k : ℕ) (is : k ≡ p.key) where
    say : (in_use s p.key past ≢ None) ⊎ (any_number more p.key ≡ true) → (f : Finding) → f ≡ Breach KeyInUse k None → IsFound (key_checks s past more (p ∷ []) Done) (Some f)
    say h f e = subst (λ g. IsFound (key_checks s past more (p ∷ []) Done) (Some g)) (ap (λ j. Breach KeyInUse j None) (sym is) ∙ sym e) (taken more p h)

    pub listed : any_number more k ≡ true → (f : Finding) → f ≡ Breach KeyInUse k None → IsFound (key_checks s past more (p ∷ []) Done) (Some f)
    listed there = say (inr (ap (any_number more) (sym is) ∙ there))

    pub used_already : (r : Range) → in_use s k past ≡ Some r → (f : Finding) → f ≡ Breach KeyInUse k None → IsFound (key_checks s past more (p ∷ []) Done) (Some f)
    used_already r e = say (inl (λ none. some_region (in_use s k past) r e (ap (λ j. in_use s j past) is ∙ none)))

    pub neither : in_use s k past ≡ None → any_number more k ≡ false → IsFound (key_checks s past more (p ∷ []) Done) None
    neither none other = free more p (ap (λ j. in_use s j past) (sym is) ∙ none) (ap (any_number more) (sym is) ∙ other)

  module _ (k : ℕ) where
    pub used : (r : Range) → in_use s k past ≡ Some r → IsFound (key_check s past k Done) None
    used r e = ((λ x bad. some_region (in_use s k past) r e bad.1), tt)

    pub unused : in_use s k past ≡ None → IsFound (key_check s past k Done) (Some (Breach NoKey k None))
    unused e = inl (k, ((refl, e), λ y bad. let is = bad.0 in omega (arith, is)), refl)

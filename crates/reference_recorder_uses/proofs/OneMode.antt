-- What the check of one mode finds.
use Rattle.std.proofs.Common.{◌≡◌, ℕ, true, false, [], ◌∷◌, Some, None, inl, refl, sym, ◌∙◌, subst, arith}
use Rattle.std.proofs.lemmas.Bool.{true≢false}
use Rattle.marks.specs.declared.side.Side.{Side}
use Rattle.marks.specs.declared.breach.BreachKind.TheVariants.{Mode}
use Rattle.marks.specs.Places.{function_address}
use Rattle.replay_runs.specs.Interface.{Interface}
use Rattle.replay_runs.specs.Checks.{Done, mode_checks}
use Rattle.reference_recorder_findings.specs.declared.finding.Finding.TheVariants.{Breach}
use Rattle.reference_recorder_findings.specs.Findings.{IsFound}

module _ (i : Interface) (side : Side) (f : ℕ) where
  pub may : i.may_run side f ≡ true → IsFound (mode_checks i side (f ∷ []) Done) None
  may e = ((λ x bad. true≢false (sym e ∙ bad.1)), tt)

  pub may_not : i.may_run side f ≡ false → IsFound (mode_checks i side (f ∷ []) Done) (Some (Breach Mode (function_address f) None))
  may_not e = inl (function_address f, ((refl, e), λ y bad. let is = bad.0 in omega (arith, is)), refl)

-- at the address where the function lies
pub may_not_at : (i : Interface) (side : Side) (f address : ℕ) → address ≡ function_address f → i.may_run side f ≡ false →
    IsFound (mode_checks i side (f ∷ []) Done) (Some (Breach Mode address None))
may_not_at i side f address is e = subst (λ a. IsFound (mode_checks i side (f ∷ []) Done) (Some (Breach Mode a None))) (sym is) (may_not i side f e)

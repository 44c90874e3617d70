-- Functions that may run in a mode, and the breach of one that may not.
use Rattle.std.proofs.Common.{◌≡◌, inl, ℕ, Bool, true, false, ◌||◌, not, [], ◌∷◌, None, refl, sym, subst, arith}
use Rattle.marks.specs.declared.side.Side.{Side}
use Rattle.marks.specs.declared.breach.BreachKind.TheVariants.{Mode}
use Rattle.marks.specs.Places.{function_address}
use Rattle.replay_runs.specs.Interface.{Interface}
use Rattle.replay_runs.specs.Checks.{BreachFound, Checks, Finds, indirect_check, mode_checks}

-- it keeps to its mode
pub kept : (i may : Bool) → (not i || may) ≡ true → i ≡ true → may ≡ true
kept true may e h = e
kept false may e h = absurd cc

pub broken : (i may : Bool) → (not i || may) ≡ false → (i ≡ true) × (may ≡ false)
broken true may e = (refl, e)
broken false may e = absurd cc

module _ (i : Interface) (side : Side) (f : ℕ) (cs : Checks) where
  pub mode_found : i.may_run side f ≡ false → Finds (mode_checks i side (f ∷ []) cs) (BreachFound Mode (function_address f) None)
  mode_found may_not = inl (function_address f, ((refl, may_not), λ y bad. (let e = bad.0 in omega (arith, e))), refl)

  pub indirect_found : (b : Bool) → b ≡ true → i.may_run side f ≡ false → Finds (indirect_check i b side f cs) (BreachFound Mode (function_address f) None)
  indirect_found b e may_not = subst (λ v. Finds (indirect_check i v side f cs) (BreachFound Mode (function_address f) None)) (sym e) (mode_found may_not)

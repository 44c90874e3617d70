-- The modes of the functions of a Call.
use Rattle.std.proofs.Common.{◌≡◌, inl, inr, ℕ, Bool, true, false, List, [], ◌∷◌, Some, None, refl, sym, ap, ◌∙◌, arith}
use Rattle.std.specs.Prelude.{slice_get}
use Rattle.std.proofs.lemmas.Bool.{true≢false}
use Rattle.marks.specs.declared.side.Side.{Side}
use Rattle.marks.specs.declared.side.Side.TheVariants.{Replay}
use Rattle.marks.specs.declared.breach.BreachKind.TheVariants.{Mode}
use Rattle.marks.specs.Places.{function_address}
use Rattle.c_code.specs.Machine.{is_true}
use Rattle.replay_runs.specs.Interface.{Interface}
use Rattle.replay_runs.specs.Rules.{AllMayRun}
use Rattle.replay_runs.specs.Checks.{BreachFound, Checks, Finding, Finds, indirect_check, mode_checks}
use Rattle.recorder_calls.specs.Calls.{IsFirstForbidden}

some_none : (g : ℕ) → Some g ≡ None → ⊥
some_none g e = cc

module _ (i : Interface) (flags : List Bool) (are : (f : ℕ) → i.may_run Replay f ≡ is_true (slice_get flags f)) where
  pub all_may : (fs : List ℕ) → IsFirstForbidden flags fs None → AllMayRun i fs
  all_may [] h = tt
  all_may (f ∷ fs) h = elim h [
    | inl bad ↦ absurd (some_none f (sym bad.1))
    | inr good ↦ (are f ∙ good.0, all_may fs good.1)
  ]

  pub forbidden : (fs : List ℕ) (g : ℕ) (cs : Checks) → IsFirstForbidden flags fs (Some g) → Finds (mode_checks i Replay fs cs) (BreachFound Mode (function_address g) None)
  forbidden [] g cs h = absurd (some_none g h)
  forbidden (f ∷ fs) g cs h = elim h [
    | inl bad ↦ inl (function_address f, ((refl, are f ∙ bad.0), λ y is. (let e = is.0 in omega (arith, e))), ap (λ q. BreachFound Mode (function_address q) None) (some_same g f bad.1))
    | inr good ↦ inr ((λ x is. true≢false (sym (are f ∙ good.0) ∙ is.1)), forbidden fs g cs good.1)
  ]
    where
      some_same : (a b : ℕ) → Some a ≡ Some b → a ≡ b
      some_same a b e = cc

-- past an indirect call that keeps its mode
pub past_indirect : (i : Interface) (b : Bool) (side : Side) (f : ℕ) (cs : Checks) (found : Finding) → (b ≡ true → i.may_run side f ≡ true) → Finds cs found → Finds (indirect_check i b side f cs) found
past_indirect i false side f cs found may h = h
past_indirect i true side f cs found may h = inr ((λ x is. true≢false (sym (may refl) ∙ is.1)), h)

-- The tests of modes below the cut, which come first: where functions keep them, the rest decides.
use Rattle.std.proofs.Common.{◌≡◌, inr, ℕ, Bool, true, false, List, length, refl, sym, ◌∙◌, subst}
use Rattle.std.proofs.lemmas.Bool.{true≢false}
use Rattle.marks.specs.declared.side.Side.TheVariants.{System}
use Rattle.marks.specs.Marks.{Mark}
use Rattle.marks.specs.Wants.{Steps}
use Rattle.replay_runs.specs.Interface.{Interface}
use Rattle.replay_runs.specs.Checks.{Finding, Checks, Passes, Finds, mode_checks, indirect_check}
use Rattle.whole_runs.specs.World.{World, interface}
use Rattle.whole_runs.specs.Outcomes.{builtin_of}
use Rattle.whole_runs.specs.Tests.{full_check, back_checks, step_checks, tests}
use Rattle.whole_runs.specs.Steps.{goes_up}
use Rattle.recorder_memory.specs.Steps.{MayRunBelow}
use Rattle.recorder_memory.specs.Below.{Calling, Plainly, ThroughPointer, frame_want}
use Rattle.std.specs.Prelude.{◌∷◌, []}

module _ (i : Interface) (f : ℕ) (cs : Checks) where
  mode_passes : i.may_run System f ≡ true → Passes cs → Passes (mode_checks i System (f ∷ []) cs)
  mode_passes may p = ((λ x bad. true≢false (sym may ∙ bad.1)), p)

  mode_finds : (g : Finding) → i.may_run System f ≡ true → Finds cs g → Finds (mode_checks i System (f ∷ []) cs) g
  mode_finds g may p = inr ((λ x bad. true≢false (sym may ∙ bad.1)), p)

  indirect_passes : (b : Bool) → (b ≡ true → i.may_run System f ≡ true) → Passes cs → Passes (indirect_check i b System f cs)
  indirect_passes true may p = mode_passes (may refl) p
  indirect_passes false may p = p

  indirect_finds : (b : Bool) (g : Finding) → (b ≡ true → i.may_run System f ≡ true) → Finds cs g → Finds (indirect_check i b System f cs) g
  indirect_finds true g may p = mode_finds g (may refl) p
  indirect_finds false g may p = p

module _ (w : World) (past : List Mark) (t f : ℕ) (args : List ℕ) where
  -- a frame
  pub frame_passes : (how : Calling) (bytes : List ℕ) → MayRunBelow w past (frame_want how f args bytes) →
      Passes (full_check w past t (length bytes)) → Passes (tests w past t System (frame_want how f args bytes))
  frame_passes (Plainly i) bytes may p = indirect_passes (interface w) f (full_check w past t (length bytes)) i may p
  frame_passes ThroughPointer bytes may p = subst (λ b. Passes (back_checks w past t f bytes b)) (sym may.0) (mode_passes (interface w) f (full_check w past t (length bytes)) may.1 p)

  pub frame_finds : (how : Calling) (bytes : List ℕ) (g : Finding) → MayRunBelow w past (frame_want how f args bytes) →
      Finds (full_check w past t (length bytes)) g → Finds (tests w past t System (frame_want how f args bytes)) g
  frame_finds (Plainly i) bytes g may p = indirect_finds (interface w) f (full_check w past t (length bytes)) i g may p
  frame_finds ThroughPointer bytes g may p = subst (λ b. Finds (back_checks w past t f bytes b) g) (sym may.0) (mode_finds (interface w) f (full_check w past t (length bytes)) g may.1 p)

  pub frame_stays : (how : Calling) (bytes : List ℕ) → MayRunBelow w past (frame_want how f args bytes) → goes_up w past (frame_want how f args bytes) ≡ false
  frame_stays (Plainly i) bytes may = refl
  frame_stays ThroughPointer bytes may = may.0

  -- a builtin or external
  pub step_passes : (i : Bool) → MayRunBelow w past (Steps i f args) → Passes (step_checks w past t f args (builtin_of f)) → Passes (tests w past t System (Steps i f args))
  step_passes i may p = indirect_passes (interface w) f _ i may p

  pub step_finds : (i : Bool) (g : Finding) → MayRunBelow w past (Steps i f args) → Finds (step_checks w past t f args (builtin_of f)) g → Finds (tests w past t System (Steps i f args)) g
  step_finds i g may p = indirect_finds (interface w) f _ i g may p

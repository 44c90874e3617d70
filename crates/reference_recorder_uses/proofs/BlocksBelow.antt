-- What the checks of a block below the cut find.
use Rattle.std.proofs.Common.{◌≡◌, ℕ, zero, suc, Bool, true, false, ◌||◌, ◌==◌, if◌then◌else◌, List, [], ◌∷◌, filter, Some, None, inl, refl, sym, ap, subst, ◌∙◌, arith}
use Rattle.std.proofs.lemmas.Bool.{true≢false}
use Rattle.marks.specs.declared.fault.FaultKind.TheVariants.{NotLive}
use Rattle.marks.specs.declared.breach.BreachKind.TheVariants.{OtherSpace}
use Rattle.marks.specs.Places.{is_replay}
use Rattle.marks.specs.declared.range.Range.{Range}
use Rattle.marks.specs.Marks.{Mark}
use Rattle.replay_runs.specs.Checks.{Check, Checks, Done, is_breach_found, is_fault_found}
use Rattle.whole_runs.specs.World.{World}
use Rattle.whole_runs.specs.Below.{block_at, system_blocks}
use Rattle.whole_runs.specs.Tests.{free_checks}
use Rattle.reference_recorder_marks.specs.Marks.{without_origins}
use Rattle.reference_recorder_origins.proofs.Memory.{blocks_below}
use Rattle.reference_recorder_findings.specs.declared.finding.Finding.TheVariants.{Breach, Fault}
use Rattle.reference_recorder_findings.specs.Findings.{IsFound}
use Rattle.reference_recorder_findings.proofs.Lists.{found_after}
use Rattle.reference_recorder_uses.specs.Checks.{any_at}

at_none : (at : ℕ) (bs : List Range) → any_at at bs ≡ false → filter (λ (b : Range). b.addr == at) bs ≡ []
at_none at [] e = refl
at_none at (b ∷ bs) e = by (b.addr == at) e (at_none at bs)
  where
    by : (z : Bool) → (z || any_at at bs) ≡ false → (any_at at bs ≡ false → filter (λ (b : Range). b.addr == at) bs ≡ []) →
        (if z then b ∷ filter (λ (b : Range). b.addr == at) bs else filter (λ (b : Range). b.addr == at) bs) ≡ []
    by true is further = absurd (true≢false is)
    by false is further = further is

at_some : (at : ℕ) (bs : List Range) → any_at at bs ≡ true → filter (λ (b : Range). b.addr == at) bs ≡ [] → ⊥
at_some at [] e = absurd (true≢false (sym e))
at_some at (b ∷ bs) e = by (b.addr == at) e (at_some at bs)
  where
    by : (z : Bool) → (z || any_at at bs) ≡ true → (any_at at bs ≡ true → filter (λ (b : Range). b.addr == at) bs ≡ [] → ⊥) →
        (if z then b ∷ filter (λ (b : Range). b.addr == at) bs else filter (λ (b : Range). b.addr == at) bs) ≡ [] → ⊥
    by true is further none = cc
    by false is further none = further is none

pub handed_back_above : (w : World) (p : List Mark) (a : ℕ) → is_replay (suc a) ≡ true → IsFound (free_checks w p (suc a)) (Some (Breach OtherSpace (suc a) None))
handed_back_above w p a e = inl (suc a, ((refl, e), λ y bad. let is = bad.0 in omega (arith, is)), refl)

module _ (w : World) (p q : List Mark) (same : without_origins p ≡ q) (a : ℕ) where
  abbrev space_check : Checks
  space_check = Check (λ x. (x ≡ suc a) × (is_replay x ≡ true)) (is_breach_found OtherSpace) Done

  abbrev there_check : Checks
  there_check = Check (λ x. block_at (suc a) p ≡ []) (is_fault_found NotLive) Done

  blocks_same : system_blocks q ≡ system_blocks p
  blocks_same = ap system_blocks (sym same) ∙ blocks_below p

  own : is_replay (suc a) ≡ false → IsFound space_check None
  own e = ((λ x bad. true≢false (sym bad.1 ∙ (ap is_replay bad.0 ∙ e))), tt)

  pub block_found : is_replay (suc a) ≡ false → any_at (suc a) (system_blocks q) ≡ true → IsFound (free_checks w p (suc a)) None
  block_found e h =
      found_after space_check there_check None (own e) ((λ x none. at_some (suc a) (system_blocks q) h (subst (λ bs. filter (λ (b : Range). b.addr == suc a) bs ≡ []) (sym blocks_same) none)), tt)

  pub no_block_found : is_replay (suc a) ≡ false → any_at (suc a) (system_blocks q) ≡ false → IsFound (free_checks w p (suc a)) (Some (Fault NotLive))
  no_block_found e h =
      found_after space_check there_check (Some (Fault NotLive)) (own e)
      (inl (0, (subst (λ bs. filter (λ (b : Range). b.addr == suc a) bs ≡ []) blocks_same (at_none (suc a) (system_blocks q) h), λ y bad. omega arith), refl))

-- ---- of whatever address

pub null : (w : World) (p : List Mark) (at : ℕ) → at ≡ 0 → IsFound (free_checks w p at) None
null w p zero e = tt
null w p (suc a) e = absurd cc

pub handed_back : (w : World) (p : List Mark) (at : ℕ) → is_replay at ≡ true → IsFound (free_checks w p at) (Some (Breach OtherSpace at None))
handed_back w p zero e = absurd cc
handed_back w p (suc a) e = handed_back_above w p a e

pub found_at : (w : World) (p q : List Mark) → without_origins p ≡ q → (at : ℕ) → is_replay at ≡ false → any_at at (system_blocks q) ≡ true → IsFound (free_checks w p at) None
found_at w p q same zero e h = tt
found_at w p q same (suc a) e h = block_found w p q same a e h

pub unfound_at : (w : World) (p q : List Mark) → without_origins p ≡ q → (at : ℕ) → (at ≡ 0 → ⊥) → is_replay at ≡ false → any_at at (system_blocks q) ≡ false → IsFound (free_checks w p at) (Some (Fault NotLive))
unfound_at w p q same zero ne e h = absurd (ne refl)
unfound_at w p q same (suc a) ne e h = no_block_found w p q same a e h

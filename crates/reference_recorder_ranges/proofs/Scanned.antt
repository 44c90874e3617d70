-- What the checks find is what scans find, in a run that has come to these marks.
use Rattle.std.proofs.Common.{◌≡◌, ◌⊎◌, ℕ, ◌-◌, ◌^◌, ◌<◌, Bool, true, List, Option, Some, None, refl, sym, ap, subst, ◌∙◌, arith}
use Rattle.marks.specs.declared.fault.FaultKind.TheVariants.{NotLive}
use Rattle.marks.specs.declared.breach.BreachKind.TheVariants.{OtherSpace, Pending}
use Rattle.marks.specs.declared.range.Range.{Range}
use Rattle.marks.specs.Ranges.{IsFirstIn, IsLeastIn, NoneIn, any_range, covers}
use Rattle.marks.specs.Marks.{Mark}
use Rattle.marks.specs.Bytes.{Byte, Dead, IsHeld}
use Rattle.replay_runs.specs.Runs.{byte}
use Rattle.replay_runs.specs.Checks.{Check, Done, Passes, is_breach_found, is_fault_found, live_check, pending_check}
use Rattle.replay_runs.specs.Checks as checks
use Rattle.whole_runs.specs.World.{World, begin}
use Rattle.whole_runs.specs.Sides.{seen}
use Rattle.whole_runs.specs.Memory.{real}
use Rattle.whole_runs.specs.Below.{IsForbidden}
use Rattle.reference_recorder_marks.specs.Marks.{without_origins}
use Rattle.reference_recorder_origins.proofs.Memory.{byte_seen, real_without}
use Rattle.reference_recorder_scans.specs.Found.{IsLeastBad, IsLow}
use Rattle.reference_recorder_scans.proofs.Found.{forbidden_low, least_bad}
use Rattle.reference_recorder_findings.specs.declared.finding.Finding.{Finding}
use Rattle.reference_recorder_findings.specs.declared.finding.Finding.TheVariants.{Breach, Fault}
use Rattle.reference_recorder_findings.specs.Findings.{IsFound, finding_of}
use Rattle.reference_recorder_findings.proofs.Firsts.{least, nothing, same_check}
use Rattle.reference_recorder_ranges.specs.Below.{forbidden_check, lost_check}
use Rattle.reference_recorder_ranges.proofs.Origins.{forbidden_from, forbidden_to}

-- the least bad number is what a check finds
found_none : (Bad : ℕ → Type 0) (Found : ℕ → checks.Finding → Type 0) → IsLeastBad Bad None → IsFound (Check Bad Found Done) None
found_none Bad Found h = nothing Bad Found h

found_some : (Bad : ℕ → Type 0) (Found : ℕ → checks.Finding → Type 0) (x : ℕ) (f : Finding) → Found x (finding_of f) → IsLeastBad Bad (Some x) → IsFound (Check Bad Found Done) (Some f)
found_some Bad Found x f say h = least Bad Found x f h say

module _ (w : World) (p q : List Mark) (same : without_origins p ≡ q) where
  cell_at : (x : ℕ) → (byte (begin w) x (seen q)).cell ≡ (byte (begin w) x (seen p)).cell
  cell_at x = ap (λ (ms : List Mark). (byte (begin w) x (seen ms)).cell) (sym same) ∙ ap (λ (b : Byte). b.cell) (byte_seen w x p)

  real_at : (x : ℕ) → real w q x ≡ real w p x
  real_at x = ap (λ (ms : List Mark). real w ms x) (sym same) ∙ real_without w x p

  -- ---- live bytes, and pending ones

  module _ (low : IsLow w q) (r : Range) where
    abbrev Dies : List Mark → ℕ → Type 0
    Dies ms x = (byte (begin w) x (seen ms)).cell ≡ Dead

    live_same : (o : Option Finding) → IsFound (live_check (begin w) (seen q) r Done) o → IsFound (live_check (begin w) (seen p) r Done) o
    live_same o =
        same_check (λ x. (covers r x ≡ true) × Dies q x) (λ x. (covers r x ≡ true) × Dies p x) (is_fault_found NotLive) (is_fault_found NotLive) o
        (λ x bad. (bad.0, sym (cell_at x) ∙ bad.1)) (λ x bad. (bad.0, cell_at x ∙ bad.1)) (λ x f is. is)

    dead_bad : r.addr < 2 ^ 64 → (first : Option ℕ) → IsFirstIn r (Dies q) first → IsLeastBad (λ x. (covers r x ≡ true) × Dies q x) first
    dead_bad fits first h = least_bad r (Dies q) first (λ x past cov d. (fits, (low (2 ^ 64 - 1) (omega arith)).0)) h

    pub dead_found : r.addr < 2 ^ 64 → (x : ℕ) → IsLeastIn r (Dies q) x → IsFound (live_check (begin w) (seen p) r Done) (Some (Fault NotLive))
    dead_found fits x h = live_same (Some (Fault NotLive)) (found_some (λ y. (covers r y ≡ true) × Dies q y) (is_fault_found NotLive) x (Fault NotLive) refl (dead_bad fits (Some x) h))

    pub all_live : r.addr < 2 ^ 64 → NoneIn r (Dies q) → IsFound (live_check (begin w) (seen p) r Done) None
    all_live fits h = live_same None (found_none (λ y. (covers r y ≡ true) × Dies q y) (is_fault_found NotLive) (dead_bad fits None h))

    module _ (more : List Range) (lives : Passes (live_check (begin w) (seen p) r Done)) where
      abbrev Waits : List Mark → ℕ → Type 0
      Waits ms x = IsHeld (byte (begin w) x (seen ms)).cell ⊎ (any_range more x ≡ true)

      waits_from : (x : ℕ) → Waits q x → Waits p x
      waits_from x h = subst (λ cell. IsHeld cell ⊎ (any_range more x ≡ true)) (cell_at x) h

      waits_to : (x : ℕ) → Waits p x → Waits q x
      waits_to x h = subst (λ cell. IsHeld cell ⊎ (any_range more x ≡ true)) (sym (cell_at x)) h

      pending_same : (o : Option Finding) → IsFound (pending_check (begin w) (seen q) more r Done) o → IsFound (pending_check (begin w) (seen p) more r Done) o
      pending_same o =
          same_check (λ x. (covers r x ≡ true) × Waits q x) (λ x. (covers r x ≡ true) × Waits p x) (is_breach_found Pending) (is_breach_found Pending) o
          (λ x bad. (bad.0, waits_from x bad.1)) (λ x bad. (bad.0, waits_to x bad.1)) (λ x f is. is)

      waits_bad : (first : Option ℕ) → IsFirstIn r (Waits q) first → IsLeastBad (λ x. (covers r x ≡ true) × Waits q x) first
      waits_bad first h = least_bad r (Waits q) first (λ x past cov d. absurd (lives.0 x (cov, sym (cell_at x) ∙ (low x (omega (arith, past))).0))) h

      pub pending_found : (x : ℕ) → IsLeastIn r (Waits q) x → IsFound (pending_check (begin w) (seen p) more r Done) (Some (Breach Pending x None))
      pending_found x h =
          pending_same (Some (Breach Pending x None)) (found_some (λ y. (covers r y ≡ true) × Waits q y) (is_breach_found Pending) x (Breach Pending x None) refl (waits_bad (Some x) h))

      pub none_pending : NoneIn r (Waits q) → IsFound (pending_check (begin w) (seen p) more r Done) None
      none_pending h = pending_same None (found_none (λ y. (covers r y ≡ true) × Waits q y) (is_breach_found Pending) (waits_bad None h))

    -- ---- below the cut

    abbrev Lost : List Mark → ℕ → Type 0
    Lost ms x = real w ms x ≡ None

    lost_same : (o : Option Finding) → IsFound (lost_check w q r Done) o → IsFound (lost_check w p r Done) o
    lost_same o =
        same_check (λ x. (covers r x ≡ true) × Lost q x) (λ x. (covers r x ≡ true) × Lost p x) (is_fault_found NotLive) (is_fault_found NotLive) o
        (λ x bad. (bad.0, sym (real_at x) ∙ bad.1)) (λ x bad. (bad.0, real_at x ∙ bad.1)) (λ x f is. is)

    lost_bad : r.addr < 2 ^ 64 → (first : Option ℕ) → IsFirstIn r (Lost q) first → IsLeastBad (λ x. (covers r x ≡ true) × Lost q x) first
    lost_bad fits first h = least_bad r (Lost q) first (λ x past cov d. (fits, (low (2 ^ 64 - 1) (omega arith)).1)) h

    pub lost_found : r.addr < 2 ^ 64 → (x : ℕ) → IsLeastIn r (Lost q) x → IsFound (lost_check w p r Done) (Some (Fault NotLive))
    lost_found fits x h = lost_same (Some (Fault NotLive)) (found_some (λ y. (covers r y ≡ true) × Lost q y) (is_fault_found NotLive) x (Fault NotLive) refl (lost_bad fits (Some x) h))

    pub none_lost : r.addr < 2 ^ 64 → NoneIn r (Lost q) → IsFound (lost_check w p r Done) None
    none_lost fits h = lost_same None (found_none (λ y. (covers r y ≡ true) × Lost q y) (is_fault_found NotLive) (lost_bad fits None h))

  module _ (t : ℕ) (write : Bool) (r : Range) where
    from_q : (x : ℕ) → IsForbidden w q t write x → IsForbidden w p t write x
    from_q x h = forbidden_from w p t write x (subst (λ ms. IsForbidden w ms t write x) (sym same) h)

    to_q : (x : ℕ) → IsForbidden w p t write x → IsForbidden w q t write x
    to_q x h = subst (λ ms. IsForbidden w ms t write x) same (forbidden_to w p t write x h)

    forbidden_same : (o : Option Finding) → IsFound (forbidden_check w q t write r Done) o → IsFound (forbidden_check w p t write r Done) o
    forbidden_same o =
        same_check (λ x. (covers r x ≡ true) × IsForbidden w q t write x) (λ x. (covers r x ≡ true) × IsForbidden w p t write x) (is_breach_found OtherSpace) (is_breach_found OtherSpace) o
        (λ x bad. (bad.0, from_q x bad.1)) (λ x bad. (bad.0, to_q x bad.1)) (λ x f is. is)

    forbidden_bad : (first : Option ℕ) → IsFirstIn r (IsForbidden w q t write) first → IsLeastBad (λ x. (covers r x ≡ true) × IsForbidden w q t write x) first
    forbidden_bad first h = least_bad r (IsForbidden w q t write) first (λ x past cov f. absurd (forbidden_low x f.0 past)) h

    pub forbidden_found : (x : ℕ) → IsLeastIn r (IsForbidden w q t write) x → IsFound (forbidden_check w p t write r Done) (Some (Breach OtherSpace x None))
    forbidden_found x h =
        forbidden_same (Some (Breach OtherSpace x None)) (found_some (λ y. (covers r y ≡ true) × IsForbidden w q t write y) (is_breach_found OtherSpace) x (Breach OtherSpace x None) refl (forbidden_bad (Some x) h))

    pub none_forbidden : NoneIn r (IsForbidden w q t write) → IsFound (forbidden_check w p t write r Done) None
    none_forbidden h = forbidden_same None (found_none (λ y. (covers r y ≡ true) × IsForbidden w q t write y) (is_breach_found OtherSpace) (forbidden_bad None h))

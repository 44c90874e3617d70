-- What the check of one size finds.
use Rattle.std.proofs.Common.{◌≡◌, ◌↔◌, ℕ, ◌+◌, ◌≤◌, Bool, true, List, Option, Some, None, IsSome, inl, inr, refl, sym, ap, ◌∙◌, arith}
use Rattle.marks.specs.declared.breach.BreachKind.TheVariants.{Size}
use Rattle.marks.specs.declared.range.Range.{Range}
use Rattle.marks.specs.Ranges.{IsFirstIn, Piece, covers}
use Rattle.marks.specs.Marks.{Mark}
use Rattle.marks.specs.Bytes.{Byte}
use Rattle.replay_runs.specs.Runs.{byte}
use Rattle.replay_runs.specs.Checks.{Done, IsSpoiled, size_check}
use Rattle.whole_runs.specs.World.{World, begin}
use Rattle.whole_runs.specs.Sides.{seen}
use Rattle.whole_runs.specs.Memory.{filled, real}
use Rattle.whole_runs.specs.Tests.{is_changed}
use Rattle.reference_recorder_marks.specs.Marks.{without_origins}
use Rattle.reference_recorder_origins.proofs.Memory.{byte_seen, real_without}
use Rattle.reference_recorder_scans.specs.Found.{IsLow}
use Rattle.reference_recorder_scans.proofs.Found.{changed_held, least_bad, some_changed}
use Rattle.reference_recorder_findings.specs.declared.finding.Finding.TheVariants.{Breach}
use Rattle.reference_recorder_findings.specs.Findings.{IsFound}
use Rattle.reference_recorder_ranges.specs.Checks.{changed_by}

module _ (changed : ℕ → Bool) (piece : ℕ) (r : Range) (used : ℕ) where
  pub spoiled : IsSpoiled changed piece r used → IsFound (size_check changed piece r used Done) (Some (Breach Size r.addr None))
  spoiled h = inl (r.addr, ((refl, h), λ y bad. let is = bad.0 in omega (arith, is)), refl)

  pub kept : (IsSpoiled changed piece r used → ⊥) → IsFound (size_check changed piece r used Done) None
  kept h = ((λ x bad. h bad.1), tt)

  pub short : piece ≤ r.len → used ≤ r.len → (((y : ℕ) × (covers r y ≡ true) × (r.addr + used ≤ y) × (changed y ≡ true)) → ⊥) → IsSpoiled changed piece r used → ⊥
  short few some none h = elim h [
    | inl long ↦ omega (arith, few, long)
    | inr more ↦ elim more [ inl much ↦ omega (arith, some, much) | inr other ↦ none other ]
  ]

module _ (w : World) (p q : List Mark) (same : without_origins p ≡ q) (pieces : List Piece) where
  pub changed_at : (x : ℕ) → changed_by w q pieces x ≡ changed_by w p pieces x
  changed_at x =
      ap (λ ms. changed_by w ms pieces x) (sym same)
      ∙ (ap (λ (b : Byte). is_changed b.cell (filled pieces x (real w (without_origins p) x))) (byte_seen w x p)
      ∙ ap (λ v. is_changed (byte (begin w) x (seen p)).cell (filled pieces x v)) (real_without w x p))

  pub some_at : IsLow w q → (r : Range) (used : ℕ) (first : Option ℕ) → IsFirstIn r (λ x. (r.addr + used ≤ x) × (changed_by w q pieces x ≡ true)) first →
      IsSome first ↔ ((y : ℕ) × (covers r y ≡ true) × (r.addr + used ≤ y) × (changed_by w p pieces y ≡ true))
  some_at low r used first h =
      let is = some_changed r used (changed_by w q pieces) first
      (least_bad r (λ x. (r.addr + used ≤ x) × (changed_by w q pieces x ≡ true)) first
      (λ x past cov d. absurd (changed_held (byte (begin w) x (seen q)).cell (filled pieces x (real w q x)) d.1 (low x (omega (arith, past))).0)) h) in (
        λ some. let s = is.0 some in (s.0, s.1, s.2, sym (changed_at s.0) ∙ s.3),
        λ s. is.1 (s.0, s.1, s.2, changed_at s.0 ∙ s.3),
      )

-- What marks say of memory in a run that comes to them.
use Rattle.std.proofs.Common.{◌≡◌, ℕ, ◌≤◌, ◌^◌, List, sym, ap, ◌∙◌}
use Rattle.marks.specs.Bytes.{Dead}
use Rattle.replay_runs.specs.Runs.{byte}
use Rattle.whole_runs.specs.World.{World, begin}
use Rattle.whole_runs.specs.Sides.{seen}
use Rattle.whole_runs.specs.Memory.{real}
use Rattle.reference_recorder_marks.specs.declared.mark.Mark.{Mark as Told}
use Rattle.reference_recorder_marks.specs.Marks.{past}
use Rattle.reference_recorder_origins.proofs.Memory.{byte_seen, real_without}
use Rattle.reference_recorder_scans.specs.Found.{IsLow}
use Rattle.reference_recorder_threads.specs.Telling.{IsPast}

module _ (w : World) (marks : List Told) (p : IsPast w marks) where
  pub real_are : (x : ℕ) → real w (past marks) x ≡ real w p.run x
  real_are x = ap (λ ms. real w ms x) (sym p.same) ∙ real_without w x p.run

  byte_are : (x : ℕ) → byte (begin w) x (seen (past marks)) ≡ byte (begin w) x (seen p.run)
  byte_are x = ap (λ ms. byte (begin w) x (seen ms)) (sym p.same) ∙ byte_seen w x p.run

  pub low_so : IsLow w (past marks) → (x : ℕ) → 2 ^ 31 ≤ x → (byte (begin w) x (seen p.run)).cell ≡ Dead
  low_so low x le = sym (ap (λ b. b.cell) (byte_are x)) ∙ (low x le).0

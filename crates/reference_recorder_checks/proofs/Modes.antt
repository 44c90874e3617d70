-- The check of a function's mode, and what is checked after it.
use Rattle.std.proofs.Common.{ℕ, Bool, Some, None}
use Rattle.marks.specs.declared.side.Side.{Side}
use Rattle.replay_runs.specs.Interface.{Interface}
use Rattle.replay_runs.specs.Checks.{Checks, Done, indirect_check}
use Rattle.reference_recorder_findings.specs.declared.finding.Finding.{Finding}
use Rattle.reference_recorder_findings.specs.Findings.{IsFound}
use Rattle.reference_recorder_findings.proofs.Lists.{FindsFor, found_after, found_first}
use Rattle.reference_recorder_findings.proofs.Calls.{indirect_then}

module _ (i : Interface) (side : Side) (b : Bool) (f : ℕ) (cs : Checks) where
  pub wrongly : (found : Finding) → IsFound (indirect_check i b side f Done) (Some found) → IsFound (indirect_check i b side f cs) (Some found)
  wrongly found h = indirect_then i side b f cs (Some found) (found_first (indirect_check i b side f Done) cs found h)

  pub rightly : IsFound (indirect_check i b side f Done) None → FindsFor cs (indirect_check i b side f cs)
  rightly may o h = indirect_then i side b f cs o (found_after (indirect_check i b side f Done) cs o may h)

use Rattle.std.proofs.Common.{◌≡◌, ◌-◌, ◌^◌, ◌<◌, ℕ, sym, ◌∙◌, arith}
use Rattle.marks.specs.Bytes.{Dead}
use Rattle.replay_runs.specs.Runs.{byte}
use Rattle.whole_runs.specs.World.{begin}
use Rattle.whole_runs.specs.Sides.{seen}
use Rattle.reference_recorder_marks.specs.Marks.{past}
use Rattle.reference_recorder_scans.proofs.Found.{least_bad}
use Rattle.reference_recorder_faults.proofs.FirstBad.{bad_found}
use Rattle.reference_recorder_faults.proofs.ranges.has_dead.Goals as goal

pub returns : goal.returns
returns c = λ w e low.
    let P : ℕ → Type 0 = λ x. (byte (begin w) x (seen (past c.args.marks.now))).cell ≡ Dead in
    let fits : c.args.range.addr < 2 ^ 64 = omega arith in
    let found = bad_found c.args.range P c.first_dead.result (least_bad c.args.range P c.first_dead.result (λ x past cov d. (fits, (low (2 ^ 64 - 1) (omega arith)).0)) (c.first_dead.ensures w e)) in
    (λ b. found.0 (sym c.is_some.ensures ∙ b), λ s. c.is_some.ensures ∙ found.1 s)

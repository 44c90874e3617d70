use Rattle.std.proofs.Common.{ℕ, Option, None, sym, subst}
use Rattle.marks.specs.declared.range.Range.{Range}
use Rattle.replay_runs.specs.Checks.{Done, commit_size_check, size_check}
use Rattle.reference_recorder_findings.specs.Findings.{IsFound}
use Rattle.reference_recorder_ranges.specs.Checks.{changed_by}
use Rattle.reference_recorder_ranges.proofs.brought.committed_size.Goals as goal

pub returns-in-Some : goal.returns-in-Some
returns-in-Some c = λ w p h.
    subst (λ (o : Option Range). IsFound (commit_size_check (changed_by w p c.args.pieces.now) c.args.len o c.args.used Done) c.size.result) (sym c.in-Some.is)
    (subst (λ (n : ℕ). IsFound (size_check (changed_by w p c.args.pieces.now) c.args.len c.in-Some.region n Done) c.size.result) c.counted-bytes.ensures (c.size.ensures w p h))

pub returns-in-None : goal.returns-in-None
returns-in-None c = λ w p h.
    subst (λ (o : Option Range). IsFound (commit_size_check (changed_by w p c.args.pieces.now) c.args.len o c.args.used Done) None) (sym c.in-None.is) tt

use Rattle.std.proofs.Common.{ℕ, [], length, get_or, Option, ◌∙◌, subst}
use Rattle.marks.specs.declared.range.Range.{Range}
use Rattle.replay_runs.specs.Checks.{Done, commit_size_check}
use Rattle.reference_recorder_marks.specs.Marks.{past}
use Rattle.reference_recorder_findings.specs.Findings.{IsFound}
use Rattle.reference_recorder_uses.proofs.OneKey.{region_at}
use Rattle.reference_recorder_ranges.specs.Checks.{changed_by}
use Rattle.reference_recorder_crossings.proofs.ReturnChecks.{held_right, held_wrong, key_missing}
use Rattle.reference_recorder_crossings.proofs.returns.released.Goals as goal

pub returns-in-Some : goal.returns-in-Some
returns-in-Some c = λ w p h. key_missing w p c.args.pieces.now c.args.answers.now c.args.regions.now c.args.used.now c.args.key c.args.size c.in-Some.found (c.in-Some.ensures w p h.is)

pub returns-in-Some-sizes : goal.returns-in-Some-sizes
returns-in-Some-sizes c = λ w p h. held_wrong w p c.args.pieces.now c.args.answers.now c.args.regions.now c.args.used.now c.args.key c.args.size (c.in_default.ensures w p h.is) c.in-Some-sizes.found (c.in-Some-sizes.ensures w p h)

pub returns : goal.returns
returns c = λ w p h.
    held_right w p c.args.pieces.now c.args.answers.now c.args.regions.now c.args.used.now c.args.key c.args.size (c.in_default.ensures w p h.is) (c.in_default-sizes.ensures w p h) c.committed_size.result
    (subst (λ (o : Option Range). IsFound (commit_size_check (changed_by w p c.args.pieces.now) (length (get_or c.args.answers.now (length c.args.regions.now) [])) o c.args.size Done) c.committed_size.result)
    (c.in_use-region.ensures w ∙ region_at w p (past c.args.run.marks.now) c.args.key h.is.same)
    (subst (λ (n : ℕ). IsFound (commit_size_check (changed_by w p c.args.pieces.now) n c.in_use-region.result c.args.size Done) c.committed_size.result) c.len_at-len.ensures (c.committed_size.ensures w p h)))

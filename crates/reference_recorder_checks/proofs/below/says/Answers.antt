use Rattle.std.proofs.Common.{List, IfOk, ap, ◌∙◌, subst}
use Rattle.whole_runs.specs.Below.{Target}
use Rattle.whole_runs.specs.Tests.{piece_checks}
use Rattle.reference_recorder_marks.specs.Marks.{past}
use Rattle.reference_recorder_targets.specs.Places.{targets_of}
use Rattle.reference_recorder_findings.specs.Findings.{IsFound}
use Rattle.reference_recorder_checks.proofs.Targets.{targets_same}
use Rattle.reference_recorder_checks.proofs.below.says.Goals as goal

pub returns : goal.returns
returns c = λ w p h a.
    subst (λ (xs : List Target). IfOk c.written.result (IsFound (piece_checks w p c.args.thread xs c.args.pieces.now)))
    (ap targets_of c.deref.ensures.value ∙ (c.in_ok-regions.ensures w a ∙ targets_same w p (past c.args.run.marks.now) h.is.same c.args.func c.args.args.now c.args.value))
    (c.written.ensures w p h)

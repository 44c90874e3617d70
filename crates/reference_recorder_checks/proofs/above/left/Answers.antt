use Rattle.std.proofs.Common.{◌≡◌, [], true, Some, IfOk, sym, ◌∙◌, subst}
use Rattle.marks.specs.declared.range.Range.{Range}
use Rattle.marks.specs.Ranges.{range}
use Rattle.replay_runs.specs.Checks.{Done, range_checks}
use Rattle.whole_runs.specs.World.{begin}
use Rattle.whole_runs.specs.Sides.{seen}
use Rattle.reference_recorder_findings.specs.Findings.{IsFound}
use Rattle.reference_recorder_checks.proofs.above.left.Goals as goal

pub returns-in-Some : goal.returns-in-Some
returns-in-Some c = λ w p at size h e.
    let is : Some c.in-Some.frame ≡ Some (range at size) = sym c.in-Some.is ∙ (c.in_ok-frame.ensures w p h ∙ e) in
    let same : c.in-Some.frame ≡ range at size = cc in
    subst (λ (r : Range). IfOk c.range.result (IsFound (range_checks (begin w) (seen p) c.args.thread true [] r Done))) same (c.range.ensures w p h)

pub returns-in-None : goal.returns-in-None
returns-in-None c = λ w p at size h e. let is = sym c.in-None.is ∙ (c.in_ok-frame.ensures w p h ∙ e) in absurd cc

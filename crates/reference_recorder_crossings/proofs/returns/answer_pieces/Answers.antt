use Rattle.std.proofs.Common.{◌≡◌, List, IfOk, subst}
use Rattle.whole_runs.specs.Below.{Target, pieces_for}
use Rattle.reference_recorder_marks.specs.Marks.{past}
use Rattle.reference_recorder_crossings.proofs.ReturnChecks.{answered}
use Rattle.reference_recorder_crossings.proofs.returns.answer_pieces.Goals as goal

pub returns : goal.returns
returns c = λ w p h a.
    subst (λ (xs : List Target). IfOk c.pieces_for.result (λ pieces. pieces.items ≡ pieces_for xs c.args.answers.now))
    (answered w p (past c.args.run.marks.now) h.is.same c.args.func c.args.args.now c.args.value c.deref.result.now c.in_ok-regions.regions.items c.deref.ensures.value (c.in_ok-regions.ensures w a))
    c.pieces_for.ensures

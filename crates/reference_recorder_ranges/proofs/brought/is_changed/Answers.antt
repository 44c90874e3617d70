use Rattle.std.proofs.Common.{sym, ◌∙◌}
use Rattle.reference_recorder_marks.specs.Marks.{past}
use Rattle.reference_recorder_ranges.proofs.OneSize.{some_at}
use Rattle.reference_recorder_ranges.proofs.brought.is_changed.Goals as goal

pub returns : goal.returns
returns c = λ w p h.
    let is = some_at w p (past c.args.run.marks.now) h.is.same c.args.pieces.now h.low c.args.region c.args.used c.first_changed.result (c.first_changed.ensures w h.is.placed) in
    (λ e. is.0 (sym c.is_some.ensures ∙ e), λ s. c.is_some.ensures ∙ is.1 s)

use Rattle.std.proofs.Common.{sym, ap, ◌∙◌}
use Rattle.whole_runs.specs.World.{main_of}
use Rattle.reference_recorder_marks.specs.Marks.{past}
use Rattle.reference_recorder_checks.proofs.ToldBelow.{back_by_call}
use Rattle.reference_recorder_checks.proofs.below.is_back.Goals as goal

pub returns-else-func-main_of : goal.returns-else-func-main_of
returns-else-func-main_of c = λ w p h a.
    back_by_call w p (past c.args.run.marks.now) h.is.same c.args.func c.main_of.result c.is_registered.result (c.main_of.ensures ∙ ap main_of (sym a.code)) c.if-func-main_of.false
    (c.is_registered.ensures w)

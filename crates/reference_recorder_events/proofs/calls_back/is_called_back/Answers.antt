use Rattle.std.proofs.Common.{◌||◌, sym, ap, ◌∙◌}
use Rattle.std.proofs.lemmas.Bool.{ne_eqb}
use Rattle.replay_runs.specs.Pool.{is_registered}
use Rattle.whole_runs.specs.World.{begin, main_of}
use Rattle.whole_runs.specs.Sides.{seen}
use Rattle.reference_recorder_marks.specs.Marks.{past}
use Rattle.reference_recorder_events.proofs.calls_back.is_called_back.Goals as goal

pub returns-else-func-main_of : goal.returns-else-func-main_of
returns-else-func-main_of c = λ w is.
    c.is_registered.ensures w
    ∙ ap (λ b. b || is_registered (begin w) c.args.func (seen (past c.args.marks.now)))
    (sym (ne_eqb c.args.func (main_of w.laid.code) (λ e. c.if-func-main_of.false (e ∙ (ap main_of is ∙ sym c.main_of.ensures)))))

use Rattle.std.proofs.Common.{ap, ◌∙◌}
use Rattle.stub_meaning.specs.Meaning.{first_of}
use Rattle.reference_recorder_marks.specs.Marks.{past}
use Rattle.reference_recorder_checks.proofs.ToldAbove.{frames_same}
use Rattle.reference_recorder_checks.proofs.above.innermost.Goals as goal

pub returns : goal.returns
returns c = λ w p h.
    c.first_of.ensures
    ∙ ap first_of (c.deref.ensures.value ∙ (c.in_ok-frames.ensures w ∙ frames_same w p (past c.args.run.marks.now) h.is.same c.args.thread))

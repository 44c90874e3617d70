use Rattle.std.proofs.Common.{◌∙◌}
use Rattle.reference_recorder_marks.specs.Marks.{past}
use Rattle.reference_recorder_uses.proofs.OneKey.{region_at}
use Rattle.reference_recorder_uses.proofs.preparing.region.Goals as goal

pub returns : goal.returns
returns c = λ w p h. c.in_use.ensures w ∙ region_at w p (past c.args.run.marks.now) c.args.key h.same

use Rattle.std.proofs.Common.{◌∙◌}
use Rattle.reference_recorder_crossings.proofs.returns.returned.Goals as goal

pub returns : goal.returns
returns c = λ w p h a. c.come_up.ensures w p h a (c.deref.ensures.value ∙ c.in_ok-pieces.ensures w p h a)

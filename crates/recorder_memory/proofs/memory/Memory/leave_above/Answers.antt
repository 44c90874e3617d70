use Rattle.recorder_memory.proofs.FramesAbove.{leave_made}
use Rattle.recorder_memory.proofs.Results.{both_ok, any_err}
use Rattle.recorder_memory.proofs.memory.Memory.leave_above.Goals as goal

pub returns-clause-left : goal.returns-clause-left
returns-clause-left c = both_ok c.leave.result _ _ _ (λ frame makes left. leave_made c.args.self.now _ c.args.thread c.requires.in_range frame makes left) c.leave.ensures.left c.leave.ensures.spaces

pub returns-clause-refused : goal.returns-clause-refused
returns-clause-refused c = any_err c.leave.result _ _ (λ refusal refuses frame top w past to. refuses frame top _ _ _ to.stands.above to.modes) c.leave.ensures.refused

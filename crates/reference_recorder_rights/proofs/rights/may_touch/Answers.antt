use Rattle.reference_recorder_rights.proofs.Touching.{first_failed, first_passed}
use Rattle.reference_recorder_rights.proofs.rights.may_touch.Goals as goal

pub returns-then-is_there : goal.returns-then-is_there
returns-then-is_there c = λ w e. first_passed c.is_there.result c.in_ok-down.down (c.is_there.ensures w e) (c.in_ok-down.ensures w) c.if-is_there.true

pub returns-else-is_there : goal.returns-else-is_there
returns-else-is_there c = λ w e. first_failed c.is_there.result (c.is_there.ensures w e) c.if-is_there.false

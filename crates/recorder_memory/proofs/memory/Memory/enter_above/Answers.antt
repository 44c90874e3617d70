use Rattle.recorder_memory.proofs.FramesAbove.{enter_made}
use Rattle.recorder_memory.proofs.Results.{both_ok, any_err}
use Rattle.recorder_memory.proofs.memory.Memory.enter_above.Goals as goal

pub returns-clause-entered : goal.returns-clause-entered
returns-clause-entered c = both_ok c.enter.result _ _ _
    (λ addr makes entered i f values. enter_made c.args.self.now _ c.args.thread c.requires.in_range i f addr c.args.size values _
    (makes i f values) entered) c.enter.ensures.entered c.enter.ensures.spaces

pub returns-clause-refused : goal.returns-clause-refused
returns-clause-refused c = any_err c.enter.result _ _ (λ refusal refuses i f values w past to. refuses i f values _ _ _ to.stands.above to.modes) c.enter.ensures.refused

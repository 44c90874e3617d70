use Rattle.recorder_end.proofs.Stopping.{recording}
use Rattle.recorder_end.proofs.end.recorded.Goals as goal

pub returns : goal.returns
returns c = λ w h.
    recording w c.args.state c.args.ending h c.in_ok-log.field-0.log c.in_ok-log.field-0.threads c.spaces_above.result c.from.result c.from-2.result
    c.in_ok-log.ensures.log c.in_ok-log.ensures.records c.spaces_above.ensures c.from.ensures c.from-2.ensures

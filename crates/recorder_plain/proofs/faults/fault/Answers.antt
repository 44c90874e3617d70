use Rattle.recorder_plain.proofs.Failing.{fails}
use Rattle.recorder_plain.proofs.faults.fault.Goals as goal

pub returns : goal.returns
returns c = λ w s at. fails w s c.args.thread c.args.side c.args.number c.kind_of.result c.of.result c.kind_of.ensures c.of.ensures at

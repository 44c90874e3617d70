use Rattle.reference_recorder_calls.proofs.Keyed.{last_is}
use Rattle.reference_recorder_calls.proofs.keys.is_last.Goals as goal

pub returns : goal.returns
returns c = last_is c.args.ups.now

use Rattle.std.proofs.Common.{arith}
use Rattle.reference_recorder_spaces.proofs.Allowed.{store_allowed}
use Rattle.reference_recorder_spaces.proofs.Written.{stores}
use Rattle.reference_recorder_spaces.proofs.bytes.store.Goals as goal

pub put-requires : goal.put-requires
put-requires c = store_allowed c.args.spaces.now c.args.thread c.requires.0 c.args.at c.args.bytes.now c.requires.1

pub returns : goal.returns
returns c = stores c.args.spaces.now c.put.new.spaces c.args.thread c.args.at c.args.bytes.now (omega arith) c.put.ensures

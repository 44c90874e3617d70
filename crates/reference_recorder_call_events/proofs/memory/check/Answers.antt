use Rattle.std.proofs.Common.{arith}
use Rattle.reference_recorder_call_events.proofs.Loops.{bytes_small}
use Rattle.reference_recorder_call_events.proofs.memory.check.Goals as goal

pub returns : goal.returns
returns c = bytes_small c.args.bytes.now (λ i. omega (arith, c.type_inv.bytes i))

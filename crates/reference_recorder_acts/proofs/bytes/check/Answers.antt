use Rattle.std.proofs.Common.{arith}
use Rattle.reference_recorder_acts.proofs.Read.{small_bytes}
use Rattle.reference_recorder_acts.proofs.bytes.check.Goals as goal

pub returns : goal.returns
returns c = small_bytes c.args.bytes.now (λ i. omega (arith, c.type_inv.bytes i))

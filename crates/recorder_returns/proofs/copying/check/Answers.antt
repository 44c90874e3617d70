use Rattle.std.proofs.Common.{arith}
use Rattle.recorder_returns.proofs.Copied.{bytes_small}
use Rattle.recorder_returns.proofs.copying.check.Goals as goal

pub returns : goal.returns
returns c = bytes_small c.args.bytes.now (λ i. omega (arith, c.type_inv.bytes i))

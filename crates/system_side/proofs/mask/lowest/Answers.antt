use Rattle.std.proofs.Common.{w32, arith}
use Rattle.std.proofs.lemmas.Nat.Bits.{bit_at-trailing_zeros}
use Rattle.system_side.proofs.mask.lowest.Goals as goal

pub returns-else-mask-eq0-clause-set : goal.returns-else-mask-eq0-clause-set
returns-else-mask-eq0-clause-set c = (bit_at-trailing_zeros w32 c.args.mask (omega arith) (omega arith)).1

pub returns-else-mask-eq0-clause-below : goal.returns-else-mask-eq0-clause-below
returns-else-mask-eq0-clause-below c = (bit_at-trailing_zeros w32 c.args.mask (omega arith) (omega arith)).2

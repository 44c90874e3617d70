use Rattle.std.proofs.Common.{w32}
use Rattle.std.proofs.lemmas.Nat.Bits.{bit_at_set_same, bit_at_set_other}
use Rattle.system_side.proofs.mask.with_bit.Goals as goal

pub returns : goal.returns
returns c = record { set = bit_at_set_same w32 _ _ c.requires; others = bit_at_set_other w32 _ _ c.requires }

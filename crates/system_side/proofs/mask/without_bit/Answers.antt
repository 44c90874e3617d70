use Rattle.std.proofs.Common.{w32}
use Rattle.std.proofs.lemmas.Nat.Bits.{bit_at_clear_same, bit_at_clear_other}
use Rattle.system_side.proofs.mask.without_bit.Goals as goal

pub returns : goal.returns
returns c = record { clear = bit_at_clear_same w32 _ _ c.requires; others = bit_at_clear_other w32 _ _ c.requires }

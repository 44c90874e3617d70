-- Every value of a kind lies between the least and the greatest value of all kinds.
use Rattle.std.proofs.Common.{◌^◌, ℤ, pos, negsuc, ◌≤ℤ◌, arith}
use Rattle.std.proofs.lemmas.Int.{ints}
use Rattle.r2_num.specs.declared.kinds.IntKind.{IntKind}
use Rattle.r2_num.specs.declared.kinds.IntKind.TheVariants.{I8, U8, I16, U16, I32, U32, I64, U64}
use Rattle.r2_num.specs.Kinds.{IsValue}

abbrev pub Small : ℤ → Type 0
Small v = (negsuc (2 ^ 64) ≤ℤ v) × (v ≤ℤ pos (2 ^ 64))

pub small : (k : IntKind) (v : ℤ) → IsValue k v → Small v
small I8 v h = (omega (arith, ints), omega (arith, ints))
small U8 v h = (omega (arith, ints), omega (arith, ints))
small I16 v h = (omega (arith, ints), omega (arith, ints))
small U16 v h = (omega (arith, ints), omega (arith, ints))
small I32 v h = (omega (arith, ints), omega (arith, ints))
small U32 v h = (omega (arith, ints), omega (arith, ints))
small I64 v h = (omega (arith, ints), omega (arith, ints))
small U64 v h = (omega (arith, ints), omega (arith, ints))

-- Every value of a kind lies between the least and the greatest value of all kinds.
use Rattle.std.proofs.Common.{◌^◌, ◌<◌, ◌≤◌, suc, ℤ, pos, negsuc, FitsSigned, arith}
use Rattle.std.specs.Int.{w128}
use Rattle.std.specs.Prelude.{int_div, unsigned_abs}
use Rattle.std.proofs.lemmas.Int.{ints, fits_signed_from_abs}
use Rattle.std.proofs.Math.Nat.{div-le_self}
use Rattle.r2_num.specs.declared.kinds.IntKind.{IntKind}
use Rattle.r2_num.specs.declared.kinds.IntKind.TheVariants.{I8, U8, I16, U16, I32, U32, I64, U64}
use Rattle.r2_num.specs.declared.operations.Op.{Op}
use Rattle.r2_num.specs.declared.operations.Op.TheVariants.{Add, Sub, Mul, Div, Rem, Shl, Shr, And, Or, Xor, Eq, Ne, Lt, Le, Gt, Ge}
use Rattle.r2_num.specs.Kinds.{width_of, IsValue}
use Rattle.r2_num.specs.Operations.{IsAnyValue, IsRight}

pub any_value : (k : IntKind) (v : ℤ) → IsValue k v → IsAnyValue v
any_value I8 v h = (omega (arith, ints), omega (arith, ints))
any_value U8 v h = (omega (arith, ints), omega (arith, ints))
any_value I16 v h = (omega (arith, ints), omega (arith, ints))
any_value U16 v h = (omega (arith, ints), omega (arith, ints))
any_value I32 v h = (omega (arith, ints), omega (arith, ints))
any_value U32 v h = (omega (arith, ints), omega (arith, ints))
any_value I64 v h = (omega (arith, ints), omega (arith, ints))
any_value U64 v h = (omega (arith, ints), omega (arith, ints))

pub any_right : (op : Op) (k : IntKind) (b : ℤ) → IsRight op k b → IsAnyValue b
any_right Shl k b h = h
any_right Shr k b h = h
any_right Add k b h = any_value k b h
any_right Sub k b h = any_value k b h
any_right Mul k b h = any_value k b h
any_right Div k b h = any_value k b h
any_right Rem k b h = any_value k b h
any_right And k b h = any_value k b h
any_right Or k b h = any_value k b h
any_right Xor k b h = any_value k b h
any_right Eq k b h = any_value k b h
any_right Ne k b h = any_value k b h
any_right Lt k b h = any_value k b h
any_right Le k b h = any_value k b h
any_right Gt k b h = any_value k b h
any_right Ge k b h = any_value k b h

pub abs_within : (v : ℤ) → IsAnyValue v → unsigned_abs v < 2 ^ 64
abs_within (pos n) h = omega (arith, ints)
abs_within (negsuc n) h = omega (arith, ints)

quotient_within : (a b : ℤ) → unsigned_abs (int_div a b) ≤ unsigned_abs a
quotient_within (pos a) (pos b) = div-le_self a b
quotient_within (pos a) (negsuc b) = omega (arith, ints, div-le_self a (suc b))
quotient_within (negsuc a) (pos b) = omega (arith, ints, div-le_self (suc a) b)
quotient_within (negsuc a) (negsuc b) = div-le_self (suc a) (suc b)

pub quotient_fits : (a b : ℤ) → IsAnyValue a → FitsSigned w128 (int_div a b)
quotient_fits a b h =
    let small : unsigned_abs a < 2 ^ 64 = abs_within a h in
    let less : unsigned_abs (int_div a b) ≤ unsigned_abs a = quotient_within a b in
    fits_signed_from_abs w128 (int_div a b) (omega arith)

pub width_within : (k : IntKind) → width_of k ≤ 64
width_within I8 = omega arith
width_within U8 = omega arith
width_within I16 = omega arith
width_within U16 = omega arith
width_within I32 = omega arith
width_within U32 = omega arith
width_within I64 = omega arith
width_within U64 = omega arith

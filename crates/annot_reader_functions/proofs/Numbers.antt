-- A table has as many types as numbers.
use Rattle.std.proofs.Common.{◌≡◌, ◌+◌, List, [], ◌∷◌, ◌++◌, length, arith, length-append}
use Rattle.c_types_model.specs.Types.{CType}
use Rattle.c_types_table.specs.declared.ty.Ty.{Ty}
use Rattle.c_types_table.specs.Tables.{made, types_after, types_of}

length-after : (ts : List CType) (ns : List Ty) → length (types_after ts ns) ≡ length ts + length ns
length-after ts [] = omega arith
length-after ts (n ∷ ns) = let g = length-append ts (made ts n ∷ []) in let h = length-after (ts ++ made ts n ∷ []) ns in omega arith

-- as many types as numbers
pub as_many_types : (ns : List Ty) → length (types_of ns) ≡ length ns
as_many_types ns = let h = length-after [] ns in omega arith

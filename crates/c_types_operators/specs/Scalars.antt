-- Scalar types.
use Rattle.std.specs.Prelude.{◌≡◌, ℕ, ◌<◌, false, if◌then◌else◌, List, length, Option, Some, None}
use Rattle.c_types_model.specs.Types.{CType, Integer, PointerTo}
use Rattle.c_types_model.specs.declared.extent.Extent.{Extent}
use Rattle.c_types_table.specs.declared.ty.Ty.{Ty}
use Rattle.c_types_table.specs.Tables.{type_at}
use Rattle.c_types_rules.specs.TypeTests.{is_complete, is_scalar}
use Rattle.c_types_rules.specs.Operators.{size_in}
use Rattle.c_types_operators.specs.declared.queries.Scalar.{Scalar}
use Rattle.c_types_operators.specs.declared.queries.Scalar.TheVariants as scalars

-- which scalar type this is; None of any other
abbrev pub IsScalar : (types : List Ty) → CType → Option Scalar → Type 0
IsScalar types c (Some (scalars.Integer k)) = c ≡ Integer k
IsScalar types c (Some (scalars.Pointer t)) = (t.0 < length types) × (c ≡ PointerTo (type_at types t))
IsScalar types c None = is_scalar c ≡ false

-- by how much `++` and `--` change an object: an integer by 1, a pointer to a complete object by the
-- object's size
abbrev pub step_in : (structs : List Extent) → CType → Option ℕ
step_in structs (Integer k) = Some 1
step_in structs (PointerTo t) = if is_complete structs t then Some (size_in structs t) else None
step_in structs t = None

-- The types of declared functions.
use Rattle.std.specs.Prelude.{ℕ, ◌+◌, List, map, Option, Some, None}
use Rattle.std.specs.List.{All}
use Rattle.c_types_model.specs.Types.{CType}
use Rattle.c_types_table.specs.declared.ty.Ty.{Ty}
use Rattle.c_types_table.specs.Tables.{IsBelow, type_at}
use Rattle.c_types_program.specs.declared.function.Function.{Function}

-- the types of functions of a program
abbrev pub declared_types : List Ty → List Function → List CType
declared_types types fs = map (λ f. type_at types f.ty) fs

-- they are among the first n of a table
abbrev pub AreFunctionsBelow : ℕ → List Function → Type 0
AreFunctionsBelow n fs = All (λ f. IsBelow n f.ty) fs

-- a place among the fixed types, or else after these eight
abbrev pub or_after : Option ℕ → ℕ → ℕ
or_after (Some n) m = n
or_after None m = 8 + m

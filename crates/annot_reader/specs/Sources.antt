-- Functions of a source that is typed, and the answer to what its annotations say.
use Rattle.std.specs.Prelude.{◌<◌, ◌≤◌, length, Result, Ok, Err}
use Rattle.source_limits.specs.Limits.{most_params}
use Rattle.c_types_model.specs.Types.{CType, FunctionOf}
use Rattle.c_types_table.specs.Tables.{type_at}
use Rattle.c_types_rules.specs.Limits.{count}
use Rattle.c_types_nodes.specs.Tables.{Table}
use Rattle.c_types_program.specs.declared.function.Function.{Function}
use Rattle.c_types_source.specs.declared.parts.Parts.{Parts as TypedSource}
use Rattle.annot_reader.specs.declared.error.InterfaceError.{InterfaceError}
use Rattle.annot_reader.specs.Interface.{Interface}

-- a function's type, with few parameters
abbrev pub IsFunctionType : CType → Type 0
IsFunctionType (FunctionOf r ts) = count ts ≤ most_params
IsFunctionType _ = ⊥

-- its type is in the table, and that of a function
pub record IsTypedFunction (t : Table) (f : Function) : Type 0 where
  pub inside : f.ty.0 < length t.types
  pub type : IsFunctionType (type_at t.types f.ty)

-- the interface alone
abbrev pub interface_in : Result (TypedSource × Interface) InterfaceError → Result Interface InterfaceError
interface_in (Ok found) = Ok found.1
interface_in (Err e) = Err e

-- What contracts see of the interface of a cut.
use Rattle.std.specs.Prelude.{ℤ, List, Option}
use Rattle.annot_reader_functions.specs.declared.notes.FunctionNotes.{FunctionNotes}

-- what annotations say of the functions of a source by number, less that of the first, and which mutexes
-- guard its globals, by place
pub record Interface : Type 0 where
  pub functions : List FunctionNotes
  pub guards : List (Option ℤ)

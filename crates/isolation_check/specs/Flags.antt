-- Flags of all functions.
use Rattle.std.specs.Prelude.{◌≡◌, ◌+◌, Bool, List, length}
use Rattle.c_builtins.specs.Table.{first_source_function}
use Rattle.c_types_program.specs.Declarations.{Declared}

-- each function of the source, and each number below them, has its flags
pub record HasAllFlags (p : Declared) (above below faces : List Bool) : Type 0 where
  pub each_above : length above ≡ first_source_function + length p.functions
  pub each_below : length below ≡ first_source_function + length p.functions
  pub each_face : length faces ≡ first_source_function + length p.functions

-- A typed program, and what it says of mutexes.
use Rattle.std.specs.Prelude.{map}
use Rattle.c_types_program.specs.Declarations.{Declared, function_in, global_in}
use Rattle.lockset_check_rules.specs.Guards.{Guarded}
use Rattle.lockset_check_values.specs.Sayings.{Sayings, guard_in, holds_in}

pub record Setting : Type 0 where
  pub program : Declared
  pub sayings : Sayings

abbrev pub setting : Declared → Sayings → Setting
setting p s = record { program = p; sayings = s }

-- the source that it stands for
abbrev pub guarded : Setting → Guarded
guarded s = record {
  functions = map (function_in s.program.table) s.program.functions;
  globals = map (global_in s.program.table) s.program.globals;
  guard = guard_in s.sayings;
  holds = holds_in s.sayings;
}

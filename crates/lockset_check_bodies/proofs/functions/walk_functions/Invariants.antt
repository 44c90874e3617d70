use Rattle.std.proofs.Common.{◌≡◌, ◌+◌, ◌++◌, drop, map}
use Rattle.c_builtins.specs.Table.{first_source_function}
use Rattle.c_types_program.specs.Declarations.{function_in}
use Rattle.lockset_check_rules.specs.Sources.{functions_found}
use Rattle.lockset_check_values.specs.Setting.{guarded}
use Rattle.lockset_check_values.specs.Walks.{IsWalkOf}
use Rattle.lockset_check_bodies.specs.Runs.{runs_by}
use Rattle.lockset_check_bodies.proofs.functions.walk_functions.Given as goal

abbrev pub invariant-loop-i : goal.invariant-loop-i
invariant-loop-i l =
    IsWalkOf l.walker.sayings l.walk ×
    (l.walk.found ++ functions_found (guarded l.walker) (runs_by l.flags) (first_source_function + l.i) (map (function_in l.walker.program.table) (drop l.i l.walker.program.functions))
    ≡ l.fn.walk.found ++ functions_found (guarded l.walker) (runs_by l.flags) first_source_function (guarded l.walker).functions)

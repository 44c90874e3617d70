use Rattle.std.proofs.Common.{◌≡◌, ◌++◌, drop, map}
use Rattle.c_types_program.specs.Declarations.{global_in}
use Rattle.lockset_check_rules.specs.Sources.{globals_found}
use Rattle.lockset_check_values.specs.Setting.{guarded}
use Rattle.lockset_check_bodies.proofs.initials.walk_globals.Given as goal

abbrev pub invariant-loop-i : goal.invariant-loop-i
invariant-loop-i l =
    l.walk.found ++ globals_found (guarded l.walker) (map (global_in l.walker.program.table) (drop l.i l.walker.program.globals))
    ≡ l.fn.walk.found ++ globals_found (guarded l.walker) (guarded l.walker).globals

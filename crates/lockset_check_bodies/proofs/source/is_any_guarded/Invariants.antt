use Rattle.std.proofs.Common.{◌≡◌, drop, map}
use Rattle.c_types_program.specs.Declarations.{global_in}
use Rattle.lockset_check_rules.specs.Sources.{is_any_guarded}
use Rattle.lockset_check_values.specs.Setting.{guarded}
use Rattle.lockset_check_bodies.proofs.source.is_any_guarded.Given as goal

abbrev pub invariant-loop-i : goal.invariant-loop-i
invariant-loop-i l =
    is_any_guarded (guarded l.walker) l.i (map (global_in l.walker.program.table) (drop l.i l.walker.program.globals))
    ≡ is_any_guarded (guarded l.walker) 0 (guarded l.walker).globals

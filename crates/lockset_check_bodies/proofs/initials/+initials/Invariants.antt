use Rattle.std.proofs.Common.{◌≡◌, ◌++◌, drop}
use Rattle.c_types_program.specs.Declarations.{initial_in, initials_in}
use Rattle.lockset_check_rules.specs.Sources.{initials_found}
use Rattle.lockset_check_values.specs.Setting.{guarded}
use Rattle.lockset_check_bodies.proofs.Weights.{initial_weight, initials_weight}
use Rattle.lockset_check_bodies.proofs.initials.+initials.Given as goal

-- what was found, and what is found in what is left
abbrev pub invariant-walk_initials-loop-i : goal.invariant-walk_initials-loop-i
invariant-walk_initials-loop-i l =
    l.walk.found ++ initials_found (guarded l.walker) (initials_in (drop l.i l.values)) ≡ l.fn.walk.found ++ initials_found (guarded l.walker) (initials_in l.values)

abbrev pub decreases-walk_initial : goal.decreases-walk_initial
decreases-walk_initial l = initial_weight (initial_in l.value.now)

abbrev pub decreases-walk_initials : goal.decreases-walk_initials
decreases-walk_initials l = initials_weight (initials_in l.values.now)

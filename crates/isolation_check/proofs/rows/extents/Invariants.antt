use Rattle.std.proofs.Common.{◌≡◌, ◌++◌, drop}
use Rattle.c_lower_layout.specs.Indexed.{extents_at}
use Rattle.isolation_check.specs.Rows.{global_types}
use Rattle.isolation_check.proofs.rows.extents.Given as goal

-- with what is left they make the whole
abbrev pub invariant-loop-global : goal.invariant-loop-global
invariant-loop-global l =
    l.extents.items ++ extents_at l.structs (global_types l.types (drop l.global-index l.globals)) ≡ extents_at l.structs (global_types l.types l.globals)

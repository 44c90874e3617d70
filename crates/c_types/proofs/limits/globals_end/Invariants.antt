use Rattle.std.proofs.Common.{◌≡◌, drop}
use Rattle.c_types_model.specs.Layouts.{capped, end_from}
use Rattle.c_types_rules.specs.Environment.{extents}
use Rattle.c_types.proofs.Limited.{extents_by, types_of_globals}
use Rattle.c_types.proofs.limits.globals_end.Given as goal

abbrev pub invariant-loop-global : goal.invariant-loop-global
invariant-loop-global l =
    let es = extents_by (extents l.env.env) (types_of_globals l.env.table.types l.globals) in
    record {
      -- the end is as it is stored
      fits : capped l.end ≡ l.end;
      ends : capped (end_from l.end (drop l.global-index es)) ≡ capped (end_from 0 es);
    }

use Rattle.std.proofs.Common.{◌≡◌, drop}
use Rattle.c_types_model.specs.Layouts.{capped, end_from}
use Rattle.c_types_rules.specs.Environment.{extents}
use Rattle.c_types_program.specs.Declarations.{types_in}
use Rattle.c_types.proofs.Limited.{extents_by}
use Rattle.c_types.proofs.limits.locals_end.Given as goal

abbrev pub invariant-loop-local : goal.invariant-loop-local
invariant-loop-local l =
    let es = extents_by (extents l.env.env) (types_in l.env.table.types l.locals) in
    record {
      -- the end is as it is stored
      fits : capped l.end ≡ l.end;
      ends : capped (end_from l.end (drop l.local-index es)) ≡ capped (end_from 0 es);
    }

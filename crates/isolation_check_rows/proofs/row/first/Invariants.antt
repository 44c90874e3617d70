use Rattle.std.proofs.Common.{◌+◌, drop}
use Rattle.c_builtins.specs.Table.{first_source_function}
use Rattle.isolation_check_rows.specs.Rows.{AreFirstFrom, counts}
use Rattle.isolation_check_rows.proofs.row.first.Given as goal

abbrev pub invariant-loop-place : goal.invariant-loop-place
invariant-loop-place l =
    AreFirstFrom l.kind (counts l.sides.above.now l.sides.below.now l.which) l.count (first_source_function + l.place) (drop l.place l.functions) l.row.items

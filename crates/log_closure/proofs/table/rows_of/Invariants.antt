use Rattle.log_closure.specs.Tables.{AreBlank}
use Rattle.log_closure.proofs.table.rows_of.Given as goal

abbrev pub invariant-loop-count : goal.invariant-loop-count
invariant-loop-count l = AreBlank l.rows.items

use Rattle.std.proofs.Common.{◌≡◌, drop}
use Rattle.c_types_program.specs.Statements.{statement_in, statements_in}
use Rattle.c_lower_placement.specs.Heights.{statements_depth}
use Rattle.c_lower_bodies.proofs.Weights.{statement_weight, statements_weight}
use Rattle.c_lower.specs.Depths.{capped}
use Rattle.c_lower.proofs.wide.+statements.Given as goal

abbrev pub invariant-statements_depth-loop-i : goal.invariant-statements_depth-loop-i
invariant-statements_depth-loop-i l = l.most ≡ capped (statements_depth (statements_in l.table (drop l.i l.statements)))

abbrev pub decreases-statement_depth : goal.decreases-statement_depth
decreases-statement_depth l = statement_weight (statement_in l.table.now l.statement.now)

abbrev pub decreases-statements_depth : goal.decreases-statements_depth
decreases-statements_depth l = statements_weight (statements_in l.table.now l.statements.now)

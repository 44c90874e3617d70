use Rattle.std.proofs.Common.{◌≡◌, ◌+◌, ◌-◌, ◌++◌, drop, length}
use Rattle.c_types_program.specs.Statements.{statement_in, statements_in}
use Rattle.c_lower_placement.specs.Code.{statements_code}
use Rattle.c_lower_bodies.specs.Making.{making}
use Rattle.c_lower_bodies.proofs.Weights.{statement_weight, statements_weight}
use Rattle.c_lower_bodies.proofs.emitter.Emitter.+statements.Given as goal

abbrev pub invariant-statements-loop-i : goal.invariant-statements-loop-i
invariant-statements-loop-i l =
    l.code ≡ statements_code (statements_in l.self.declared.table (drop l.i l.statements)) (making l.self) (length l.fn.code - l.stop) (length l.fn.code - l.again) ++ l.fn.code

abbrev pub decreases-statement : goal.decreases-statement
decreases-statement l = statement_weight (statement_in l.self.now.declared.table l.statement.now)

abbrev pub decreases-statements : goal.decreases-statements
decreases-statements l = statements_weight (statements_in l.self.now.declared.table l.statements.now)

abbrev pub decreases-guarded : goal.decreases-guarded
decreases-guarded l = 1 + statement_weight (statement_in l.self.now.declared.table l.then.now)

abbrev pub decreases-while_loop : goal.decreases-while_loop
decreases-while_loop l = 2 + statement_weight (statement_in l.self.now.declared.table l.body.now)

abbrev pub decreases-do_loop : goal.decreases-do_loop
decreases-do_loop l = 1 + statement_weight (statement_in l.self.now.declared.table l.body.now)

abbrev pub decreases-for_loop : goal.decreases-for_loop
decreases-for_loop l = 1 + statement_weight (statement_in l.self.now.declared.table l.body.now)

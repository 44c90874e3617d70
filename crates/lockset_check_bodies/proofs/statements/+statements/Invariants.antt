use Rattle.std.proofs.Common.{◌+◌, Bool, drop}
use Rattle.c_types_program.specs.Statements.{statement_in, statements_in}
use Rattle.lockset_check_values.specs.Setting.{guarded}
use Rattle.lockset_check_values.specs.Walks.{IsWalkOf, Walked}
use Rattle.lockset_check_bodies.specs.Places.{StatementsWalked}
use Rattle.lockset_check_bodies.proofs.Weights.{statement_weight, statements_weight}
use Rattle.lockset_check_bodies.proofs.statements.+statements.Given as goal

-- a walk over what is left makes one over the whole
abbrev pub invariant-walk_statements-loop-i : goal.invariant-walk_statements-loop-i
invariant-walk_statements-loop-i l =
    IsWalkOf l.walker.sayings l.walk ×
    ((goes : Bool) (v : Walked) →
    StatementsWalked (guarded l.walker) l.within (statements_in l.walker.program.table (drop l.i l.statements)) goes l.walk v →
    StatementsWalked (guarded l.walker) l.within (statements_in l.walker.program.table l.statements) goes l.fn.walk v)

abbrev pub decreases-walk_statement : goal.decreases-walk_statement
decreases-walk_statement l = statement_weight (statement_in l.walker.now.program.table l.statement.now)

abbrev pub decreases-walk_statements : goal.decreases-walk_statements
decreases-walk_statements l = statements_weight (statements_in l.walker.now.program.table l.statements.now)

abbrev pub decreases-one_way : goal.decreases-one_way
decreases-one_way l = 1 + statement_weight (statement_in l.walker.now.program.table l.then.now)

abbrev pub decreases-two_ways : goal.decreases-two_ways
decreases-two_ways l = 1 + (statement_weight (statement_in l.walker.now.program.table l.then.now) + statement_weight (statement_in l.walker.now.program.table l.other.now))

abbrev pub decreases-round : goal.decreases-round
decreases-round l = 1 + statement_weight (statement_in l.walker.now.program.table l.body.now)

abbrev pub decreases-while_loop : goal.decreases-while_loop
decreases-while_loop l = 2 + statement_weight (statement_in l.walker.now.program.table l.body.now)

abbrev pub decreases-do_loop : goal.decreases-do_loop
decreases-do_loop l = 2 + statement_weight (statement_in l.walker.now.program.table l.body.now)

abbrev pub decreases-for_loop : goal.decreases-for_loop
decreases-for_loop l = 2 + statement_weight (statement_in l.walker.now.program.table l.body.now)

abbrev pub decreases-for_statement : goal.decreases-for_statement
decreases-for_statement l = 3 + (statements_weight (statements_in l.walker.now.program.table l.first.now) + statement_weight (statement_in l.walker.now.program.table l.body.now))

-- What an `if` is, by what its parts are.
use Rattle.std.proofs.Common.{List, length, Ok, Err, refl, ◌∙◌}
use Rattle.std.specs.List.{All}
use Rattle.c_syntax.specs.Syntax.{Expr, Stmt, If, IfElse}
use Rattle.c_types_model.specs.Types.{CType}
use Rattle.c_types_table.specs.declared.ids.TypeId.{TypeId}
use Rattle.c_types_table.specs.Tables.{IsBelow}
use Rattle.c_types_rules.specs.Checked.{Checked, Fine, ◌>>=◌}
use Rattle.c_types_rules.specs.TypedTree as typed
use Rattle.c_types_rules.specs.TypedTree.{Value}
use Rattle.c_types_rules.specs.Statements.{condition_in, outside, statement}
use Rattle.c_types_nodes.specs.declared.ids.NodeId.{NodeId}
use Rattle.c_types_nodes.specs.Tables.{Table}
use Rattle.c_types_program.specs.declared.statement.Statement.{Statement}
use Rattle.c_types_operators.specs.declared.error.TypeError.{TypeError}
use Rattle.c_types_operators.specs.Answers.{IsAt}
use Rattle.c_types_environment.specs.States.{notes_of, State}
use Rattle.c_types_expressions.specs.Found.{Finds, Stays}
use Rattle.c_types_statements.specs.declared.place.Surroundings.{Surroundings}
use Rattle.c_types_statements.specs.Typed.{IsTyped, StatementStands, declared_in, place_in}
use Rattle.c_types_expressions.proofs.Sequences.{gone_on, stopped_in}
use Rattle.c_types_expressions.proofs.Kept.{then_kept}
use Rattle.c_types_statements.proofs.Kept.{at_kept, declared_kept, declared_moved, place_kept, statement_moved, statement_stands_kept}

-- a condition that breaks a rule
module _ (a b : State) (p : Surroundings) (locals : List TypeId) (x : Expr) where
  pub test_broken : (s : Stmt) (e : TypeError) → Finds a b (IsAt b.table) (condition_in a.env x) (Err e) → Finds a b (IsTyped b locals) (statement (If 0 x s) (place_in a p) (declared_in a locals)) (Err e)
  test_broken s e h =
      stopped_in (notes_of a) (notes_of b) (notes_of b) (IsAt b.table) (IsTyped b locals) (condition_in a.env x) (λ v. statement s (place_in a p) (declared_in a locals) >>= (λ y. Fine (y.0, typed.If v y.1))) e h

  pub tests_broken : (s z : Stmt) (e : TypeError) → Finds a b (IsAt b.table) (condition_in a.env x) (Err e) → Finds a b (IsTyped b locals) (statement (IfElse 0 x s z) (place_in a p) (declared_in a locals)) (Err e)
  tests_broken s z e h =
      stopped_in (notes_of a) (notes_of b) (notes_of b) (IsAt b.table) (IsTyped b locals) (condition_in a.env x)
      (λ v. statement s (place_in a p) (declared_in a locals) >>= (λ y. statement z (place_in a p) (outside a.env y.0) >>= (λ w. Fine (w.0, typed.IfElse v y.1 w.1)))) e h

module _ (a b c : State) (p : Surroundings) (locals found : List TypeId) (x : Expr) (s : Stmt) (low : IsBelow (length a.table.types) p.result) (below : All (IsBelow (length a.table.types)) locals) (test : NodeId)
    (tested : Finds a b (IsAt b.table) (condition_in a.env x) (Ok test)) (one : Stays a b) where
  -- the rest of an `if`, after its condition
  abbrev then_part : Value → Checked (List CType × typed.Statement)
  then_part v = statement s (place_in a p) (declared_in a locals) >>= (λ y. Fine (y.0, typed.If v y.1))

  pub then_broken : (e : TypeError) → Finds b c (IsTyped c found) (statement s (place_in b p) (declared_in b locals)) (Err e)
      → Finds a c (IsTyped c found) (statement (If 0 x s) (place_in a p) (declared_in a locals)) (Err e)
  then_broken e h =
      gone_on (notes_of a) (notes_of b) (notes_of c) (IsAt b.table) (IsTyped c found) (condition_in a.env x) then_part test (Err e) tested (λ v at.
      stopped_in (notes_of b) (notes_of c) (notes_of c) (IsTyped c found) (IsTyped c found) (statement s (place_in a p) (declared_in a locals)) (λ y. Fine (y.0, typed.If v y.1)) e
      (statement_moved b c p locals (IsTyped c found) s (Err e) (place_in a p) (declared_in a locals) (place_kept a b p one.numbers low) (declared_kept a b locals one below) h))

  pub if_found : (then made : Statement) → Finds b c (IsTyped c found) (statement s (place_in b p) (declared_in b locals)) (Ok then) → Stays b c
      → ((t : Table) (y : Value) (z : typed.Statement) → IsAt t y test → StatementStands t z then → StatementStands t (typed.If y z) made)
      → Finds a c (IsTyped c found) (statement (If 0 x s) (place_in a p) (declared_in a locals)) (Ok made)
  if_found then made h two makes =
      gone_on (notes_of a) (notes_of b) (notes_of c) (IsAt b.table) (IsTyped c found) (condition_in a.env x) then_part test (Ok made) tested (λ v at.
      gone_on (notes_of b) (notes_of c) (notes_of c) (IsTyped c found) (IsTyped c found) (statement s (place_in a p) (declared_in a locals)) (λ y. Fine (y.0, typed.If v y.1)) then (Ok made)
      (statement_moved b c p locals (IsTyped c found) s (Ok then) (place_in a p) (declared_in a locals) (place_kept a b p one.numbers low) (declared_kept a b locals one below) h)
      (λ y is. ((is.0, makes c.table v y.1 (at_kept b.table c.table v test two.numbers at) is.1), refl)))

module _ (a b c : State) (p : Surroundings) (locals found : List TypeId) (x : Expr) (s z : Stmt) (low : IsBelow (length a.table.types) p.result) (below : All (IsBelow (length a.table.types)) locals) (test : NodeId)
    (tested : Finds a b (IsAt b.table) (condition_in a.env x) (Ok test)) (one : Stays a b) where
  -- the rest of an `if` with `else`, after its first statement, and after its condition
  abbrev else_part : Value → List CType × typed.Statement → Checked (List CType × typed.Statement)
  else_part v y = statement z (place_in a p) (outside a.env y.0) >>= (λ w. Fine (w.0, typed.IfElse v y.1 w.1))

  abbrev both_parts : Value → Checked (List CType × typed.Statement)
  both_parts v = statement s (place_in a p) (declared_in a locals) >>= (λ y. else_part v y)

  pub first_broken : (e : TypeError) → Finds b c (IsTyped c found) (statement s (place_in b p) (declared_in b locals)) (Err e)
      → Finds a c (IsTyped c found) (statement (IfElse 0 x s z) (place_in a p) (declared_in a locals)) (Err e)
  first_broken e h =
      gone_on (notes_of a) (notes_of b) (notes_of c) (IsAt b.table) (IsTyped c found) (condition_in a.env x) both_parts test (Err e) tested (λ v at.
      stopped_in (notes_of b) (notes_of c) (notes_of c) (IsTyped c found) (IsTyped c found) (statement s (place_in a p) (declared_in a locals)) (λ y. else_part v y) e
      (statement_moved b c p locals (IsTyped c found) s (Err e) (place_in a p) (declared_in a locals) (place_kept a b p one.numbers low) (declared_kept a b locals one below) h))

  module _ (then : Statement) (first : Finds b c (IsTyped c found) (statement s (place_in b p) (declared_in b locals)) (Ok then)) (two : Stays b c) (d : State) (all : List TypeId) where
    pub second_broken : (e : TypeError) → Finds c d (IsTyped d all) (statement z (place_in c p) (declared_in c found)) (Err e)
        → Finds a d (IsTyped d all) (statement (IfElse 0 x s z) (place_in a p) (declared_in a locals)) (Err e)
    second_broken e h =
        gone_on (notes_of a) (notes_of b) (notes_of d) (IsAt b.table) (IsTyped d all) (condition_in a.env x) both_parts test (Err e) tested (λ v at.
        gone_on (notes_of b) (notes_of c) (notes_of d) (IsTyped c found) (IsTyped d all) (statement s (place_in a p) (declared_in a locals)) (λ y. else_part v y) then (Err e)
        (statement_moved b c p locals (IsTyped c found) s (Ok then) (place_in a p) (declared_in a locals) (place_kept a b p one.numbers low) (declared_kept a b locals one below) first)
        (λ y is. stopped_in (notes_of c) (notes_of d) (notes_of d) (IsTyped d all) (IsTyped d all) (statement z (place_in a p) (outside a.env y.0)) (λ w. Fine (w.0, typed.IfElse v y.1 w.1)) e
        (statement_moved c d p found (IsTyped d all) z (Err e) (place_in a p) (outside a.env y.0) (place_kept a c p (then_kept a.table b.table c.table one.numbers two.numbers) low) (declared_moved a c found y.0 (two.env ∙ one.env) is.0) h)))

    pub if_else_found : (otherwise made : Statement) → Finds c d (IsTyped d all) (statement z (place_in c p) (declared_in c found)) (Ok otherwise) → Stays c d
        → ((t : Table) (y : Value) (u w : typed.Statement) → IsAt t y test → StatementStands t u then → StatementStands t w otherwise → StatementStands t (typed.IfElse y u w) made)
        → Finds a d (IsTyped d all) (statement (IfElse 0 x s z) (place_in a p) (declared_in a locals)) (Ok made)
    if_else_found otherwise made h three makes =
        gone_on (notes_of a) (notes_of b) (notes_of d) (IsAt b.table) (IsTyped d all) (condition_in a.env x) both_parts test (Ok made) tested (λ v at.
        gone_on (notes_of b) (notes_of c) (notes_of d) (IsTyped c found) (IsTyped d all) (statement s (place_in a p) (declared_in a locals)) (λ y. else_part v y) then (Ok made)
        (statement_moved b c p locals (IsTyped c found) s (Ok then) (place_in a p) (declared_in a locals) (place_kept a b p one.numbers low) (declared_kept a b locals one below) first)
        (λ y is. gone_on (notes_of c) (notes_of d) (notes_of d) (IsTyped d all) (IsTyped d all) (statement z (place_in a p) (outside a.env y.0)) (λ w. Fine (w.0, typed.IfElse v y.1 w.1)) otherwise (Ok made)
        (statement_moved c d p found (IsTyped d all) z (Ok otherwise) (place_in a p) (outside a.env y.0) (place_kept a c p (then_kept a.table b.table c.table one.numbers two.numbers) low) (declared_moved a c found y.0 (two.env ∙ one.env) is.0) h)
        (λ w ends. ((ends.0, makes d.table v y.1 w.1 (at_kept b.table d.table v test (then_kept b.table c.table d.table two.numbers three.numbers) at) (statement_stands_kept c.table d.table y.1 then three.numbers is.1) ends.1), refl))))

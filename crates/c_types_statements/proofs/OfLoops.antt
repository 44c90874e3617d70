-- What loops are, by what their parts are.
use Rattle.std.proofs.Common.{◌≡◌, ℕ, true, List, length, Option, Ok, Err, refl, ap, ◌∙◌}
use Rattle.std.specs.Prelude.{Vec}
use Rattle.std.specs.declared.alloc.Global.{Global}
use Rattle.std.specs.List.{All}
use Rattle.c_syntax.specs.Syntax.{Expr, MaybeExpr, First, Stmt, While, Do}
use Rattle.c_types_model.specs.Types.{CType}
use Rattle.c_types_table.specs.declared.ids.TypeId.{TypeId}
use Rattle.c_types_table.specs.Tables.{IsBelow}
use Rattle.c_types_rules.specs.Checked.{Checked, Fine, ◌>>=◌}
use Rattle.c_types_rules.specs.TypedTree as typed
use Rattle.c_types_rules.specs.TypedTree.{MaybeValue, Statements, Value}
use Rattle.c_types_rules.specs.Statements.{Declared, condition_in, first, looping, maybe_condition, maybe_in, statement}
use Rattle.c_types_nodes.specs.declared.ids.NodeId.{NodeId}
use Rattle.c_types_nodes.specs.Tables.{Table}
use Rattle.c_types_program.specs.declared.statement.Statement.{Statement}
use Rattle.c_types_operators.specs.declared.error.TypeError.{TypeError}
use Rattle.c_types_operators.specs.Answers.{IsAt}
use Rattle.c_types_environment.specs.States.{notes_of, State}
use Rattle.c_types_expressions.specs.Found.{Finds, Stays, StaysAround}
use Rattle.c_types_statements.specs.declared.place.Surroundings.{Surroundings}
use Rattle.c_types_statements.specs.Pieces.{for_here}
use Rattle.c_types_statements.specs.Typed.{AreDeclaring, IsTyped, MaybeStands, StatementStands, StatementsStand, declared_in, place_in}
use Rattle.c_types_expressions.proofs.Sequences.{gone_on, stopped_in}
use Rattle.c_types_expressions.proofs.Kept.{then_kept, then_stay}
use Rattle.c_types_statements.proofs.Kept.{at_kept, declared_kept, env_moved, looping_kept, maybe_kept, statement_moved, statement_stands_kept, statements_stand_kept, types_kept}

-- ---- while

pub while_test_broken : (a b : State) (p : Surroundings) (locals : List TypeId) (from : ℕ) (x : Expr) (s : Stmt) (e : TypeError) → Finds a b (IsAt b.table) (condition_in a.env x) (Err e) → Finds a b (IsTyped b locals) (statement (While from x s) (place_in a p) (declared_in a locals)) (Err e)
while_test_broken a b p locals from x s e h =
    stopped_in (notes_of a) (notes_of b) (notes_of b) (IsAt b.table) (IsTyped b locals) (condition_in a.env x) (λ v. statement s (looping (place_in a p)) (declared_in a locals) >>= (λ y. Fine (y.0, typed.While from v y.1))) e h

module _ (a b c : State) (p q : Surroundings) (locals found : List TypeId) (from : ℕ) (x : Expr) (s : Stmt) (low : IsBelow (length a.table.types) p.result) (below : All (IsBelow (length a.table.types)) locals)
    (inside : q ≡ record p { in_loop = true }) (test : NodeId) (tested : Finds a b (IsAt b.table) (condition_in a.env x) (Ok test)) (one : Stays a b) where
  -- the rest of a `while`, after its condition
  abbrev while_part : Value → Checked (List CType × typed.Statement)
  while_part v = statement s (looping (place_in a p)) (declared_in a locals) >>= (λ y. Fine (y.0, typed.While from v y.1))

  pub while_broken : (e : TypeError) → Finds b c (IsTyped c found) (statement s (place_in b q) (declared_in b locals)) (Err e)
      → Finds a c (IsTyped c found) (statement (While from x s) (place_in a p) (declared_in a locals)) (Err e)
  while_broken e h =
      gone_on (notes_of a) (notes_of b) (notes_of c) (IsAt b.table) (IsTyped c found) (condition_in a.env x) while_part test (Err e) tested (λ v at.
      stopped_in (notes_of b) (notes_of c) (notes_of c) (IsTyped c found) (IsTyped c found) (statement s (looping (place_in a p)) (declared_in a locals)) (λ y. Fine (y.0, typed.While from v y.1)) e
      (statement_moved b c q locals (IsTyped c found) s (Err e) (looping (place_in a p)) (declared_in a locals) (looping_kept a b p q inside one.numbers low) (declared_kept a b locals one below) h))

  pub while_found : (body made : Statement) → Finds b c (IsTyped c found) (statement s (place_in b q) (declared_in b locals)) (Ok body) → Stays b c
      → ((t : Table) (y : Value) (z : typed.Statement) → IsAt t y test → StatementStands t z body → StatementStands t (typed.While from y z) made)
      → Finds a c (IsTyped c found) (statement (While from x s) (place_in a p) (declared_in a locals)) (Ok made)
  while_found body made h two makes =
      gone_on (notes_of a) (notes_of b) (notes_of c) (IsAt b.table) (IsTyped c found) (condition_in a.env x) while_part test (Ok made) tested (λ v at.
      gone_on (notes_of b) (notes_of c) (notes_of c) (IsTyped c found) (IsTyped c found) (statement s (looping (place_in a p)) (declared_in a locals)) (λ y. Fine (y.0, typed.While from v y.1)) body (Ok made)
      (statement_moved b c q locals (IsTyped c found) s (Ok body) (looping (place_in a p)) (declared_in a locals) (looping_kept a b p q inside one.numbers low) (declared_kept a b locals one below) h)
      (λ y is. ((is.0, makes c.table v y.1 (at_kept b.table c.table v test two.numbers at) is.1), refl)))

-- ---- do

module _ (a b c : State) (p q : Surroundings) (locals found : List TypeId) (from : ℕ) (s : Stmt) (x : Expr) (low : IsBelow (length a.table.types) p.result) (inside : q ≡ record p { in_loop = true }) where
  -- the rest of a `do`, after its body
  abbrev do_part : List CType × typed.Statement → Checked (List CType × typed.Statement)
  do_part y = condition_in a.env x >>= (λ v. Fine (y.0, typed.Do from y.1 v))

  in_place : {B : Type 0} (is : List CType × typed.Statement → B → Type 0) (r : _) → Finds a b is (statement s (place_in a q) (declared_in a locals)) r → Finds a b is (statement s (looping (place_in a p)) (declared_in a locals)) r
  in_place is r h = statement_moved a b q locals is s r (looping (place_in a p)) (declared_in a locals) (ap (place_in a) inside) refl h

  pub body_broken : (e : TypeError) → Finds a b (IsTyped b found) (statement s (place_in a q) (declared_in a locals)) (Err e)
      → Finds a b (IsTyped b found) (statement (Do from s x) (place_in a p) (declared_in a locals)) (Err e)
  body_broken e h = stopped_in (notes_of a) (notes_of b) (notes_of b) (IsTyped b found) (IsTyped b found) (statement s (looping (place_in a p)) (declared_in a locals)) do_part e (in_place (IsTyped b found) (Err e) h)

  module _ (body : Statement) (done : Finds a b (IsTyped b found) (statement s (place_in a q) (declared_in a locals)) (Ok body)) (one : Stays a b) where
    pub do_broken : (e : TypeError) → Finds b c (IsAt c.table) (condition_in b.env x) (Err e)
        → Finds a c (IsTyped c found) (statement (Do from s x) (place_in a p) (declared_in a locals)) (Err e)
    do_broken e h =
        gone_on (notes_of a) (notes_of b) (notes_of c) (IsTyped b found) (IsTyped c found) (statement s (looping (place_in a p)) (declared_in a locals)) do_part body (Err e) (in_place (IsTyped b found) (Ok body) done) (λ y is.
        stopped_in (notes_of b) (notes_of c) (notes_of c) (IsAt c.table) (IsTyped c found) (condition_in a.env x) (λ v. Fine (y.0, typed.Do from y.1 v)) e
        (env_moved b c a.env (IsAt c.table) (λ z. condition_in z x) (Err e) one.env h))

    pub do_found : (test : NodeId) (made : Statement) → Finds b c (IsAt c.table) (condition_in b.env x) (Ok test) → Stays b c → All (IsBelow (length b.table.types)) found
        → ((t : Table) (y : Value) (z : typed.Statement) → IsAt t y test → StatementStands t z body → StatementStands t (typed.Do from z y) made)
        → Finds a c (IsTyped c found) (statement (Do from s x) (place_in a p) (declared_in a locals)) (Ok made)
    do_found test made h two after makes =
        gone_on (notes_of a) (notes_of b) (notes_of c) (IsTyped b found) (IsTyped c found) (statement s (looping (place_in a p)) (declared_in a locals)) do_part body (Ok made) (in_place (IsTyped b found) (Ok body) done) (λ y is.
        gone_on (notes_of b) (notes_of c) (notes_of c) (IsAt c.table) (IsTyped c found) (condition_in a.env x) (λ v. Fine (y.0, typed.Do from y.1 v)) test (Ok made)
        (env_moved b c a.env (IsAt c.table) (λ z. condition_in z x) (Ok test) one.env h)
        (λ v at. ((types_kept b.table c.table found two.numbers after ∙ is.0, makes c.table v y.1 at (statement_stands_kept b.table c.table y.1 body two.numbers is.1)), refl)))

-- ---- for

module _ (a b c d e : State) (p q : Surroundings) (locals found all : List TypeId) (from : ℕ) (f : First) (x y : MaybeExpr) (s : Stmt) (low : IsBelow (length a.table.types) p.result) (inside : q ≡ record p { in_loop = true }) where
  -- the rest of a `for`, after its third part, its second part and its first part
  abbrev after_last : Declared × Statements → MaybeValue → MaybeValue → Checked (List CType × typed.Statement)
  after_last w v u = statement s (looping (place_in a p)) w.0 >>= (λ z. Fine (z.0, typed.For from w.1 v u z.1))

  abbrev after_test : Declared × Statements → MaybeValue → Checked (List CType × typed.Statement)
  after_test w v = maybe_in w.0.env y >>= (λ u. after_last w v u)

  abbrev after_first : Declared × Statements → Checked (List CType × typed.Statement)
  after_first w = maybe_condition w.0.env x >>= (λ v. after_test w v)

  pub for_first_broken : (wrong : TypeError) → Finds a b (AreDeclaring b found) (first f (place_in a p) (declared_in a locals)) (Err wrong)
      → Finds a b (IsTyped b found) (for_here from f x y s (place_in a p) (declared_in a locals)) (Err wrong)
  for_first_broken wrong h = stopped_in (notes_of a) (notes_of b) (notes_of b) (AreDeclaring b found) (IsTyped b found) (first f (place_in a p) (declared_in a locals)) after_first wrong h

  module _ (firsts : Vec Statement Global) (began : Finds a b (AreDeclaring b found) (first f (place_in a p) (declared_in a locals)) (Ok firsts)) (one : StaysAround a b) where
    pub for_test_broken : (wrong : TypeError) → Finds b c (MaybeStands c.table) (maybe_condition b.env x) (Err wrong)
        → Finds a c (IsTyped c found) (for_here from f x y s (place_in a p) (declared_in a locals)) (Err wrong)
    for_test_broken wrong h =
        gone_on (notes_of a) (notes_of b) (notes_of c) (AreDeclaring b found) (IsTyped c found) (first f (place_in a p) (declared_in a locals)) after_first firsts (Err wrong) began (λ w is.
        stopped_in (notes_of b) (notes_of c) (notes_of c) (MaybeStands c.table) (IsTyped c found) (maybe_condition w.0.env x) (λ v. after_test w v) wrong
        (env_moved b c w.0.env (MaybeStands c.table) (λ z. maybe_condition z x) (Err wrong) (ap (λ z. z.env) is.0) h))

    module _ (test : Option NodeId) (tested : Finds b c (MaybeStands c.table) (maybe_condition b.env x) (Ok test)) (two : Stays b c) where
      pub for_last_broken : (wrong : TypeError) → Finds c d (MaybeStands d.table) (maybe_in c.env y) (Err wrong)
          → Finds a d (IsTyped d found) (for_here from f x y s (place_in a p) (declared_in a locals)) (Err wrong)
      for_last_broken wrong h =
          gone_on (notes_of a) (notes_of b) (notes_of d) (AreDeclaring b found) (IsTyped d found) (first f (place_in a p) (declared_in a locals)) after_first firsts (Err wrong) began (λ w is.
          gone_on (notes_of b) (notes_of c) (notes_of d) (MaybeStands c.table) (IsTyped d found) (maybe_condition w.0.env x) (λ v. after_test w v) test (Err wrong)
          (env_moved b c w.0.env (MaybeStands c.table) (λ z. maybe_condition z x) (Ok test) (ap (λ z. z.env) is.0) tested)
          (λ v stands. stopped_in (notes_of c) (notes_of d) (notes_of d) (MaybeStands d.table) (IsTyped d found) (maybe_in w.0.env y) (λ u. after_last w v u) wrong
          (env_moved c d w.0.env (MaybeStands d.table) (λ z. maybe_in z y) (Err wrong) (two.env ∙ ap (λ z. z.env) is.0) h)))

      module _ (last : Option NodeId) (ended : Finds c d (MaybeStands d.table) (maybe_in c.env y) (Ok last)) (three : Stays c d) (after : All (IsBelow (length b.table.types)) found) where
        -- the place of the body, and what is declared there
        body_moved : {B : Type 0} (w : Declared × Statements) → declared_in b found ≡ w.0 → (is : List CType × typed.Statement → B → Type 0) (r : _)
            → Finds d e is (statement s (place_in d q) (declared_in d found)) r → Finds d e is (statement s (looping (place_in a p)) w.0) r
        body_moved w same is r h =
            statement_moved d e q found is s r (looping (place_in a p)) w.0
            (looping_kept a d p q inside (then_kept a.table c.table d.table (then_kept a.table b.table c.table one.numbers two.numbers) three.numbers) low)
            (declared_kept b d found (then_stay b c d two three) after ∙ same) h

        pub for_body_broken : (wrong : TypeError) → Finds d e (IsTyped e all) (statement s (place_in d q) (declared_in d found)) (Err wrong)
            → Finds a e (IsTyped e all) (for_here from f x y s (place_in a p) (declared_in a locals)) (Err wrong)
        for_body_broken wrong h =
            gone_on (notes_of a) (notes_of b) (notes_of e) (AreDeclaring b found) (IsTyped e all) (first f (place_in a p) (declared_in a locals)) after_first firsts (Err wrong) began (λ w is.
            gone_on (notes_of b) (notes_of c) (notes_of e) (MaybeStands c.table) (IsTyped e all) (maybe_condition w.0.env x) (λ v. after_test w v) test (Err wrong)
            (env_moved b c w.0.env (MaybeStands c.table) (λ z. maybe_condition z x) (Ok test) (ap (λ z. z.env) is.0) tested)
            (λ v stands. gone_on (notes_of c) (notes_of d) (notes_of e) (MaybeStands d.table) (IsTyped e all) (maybe_in w.0.env y) (λ u. after_last w v u) last (Err wrong)
            (env_moved c d w.0.env (MaybeStands d.table) (λ z. maybe_in z y) (Ok last) (two.env ∙ ap (λ z. z.env) is.0) ended)
            (λ u stood. stopped_in (notes_of d) (notes_of e) (notes_of e) (IsTyped e all) (IsTyped e all) (statement s (looping (place_in a p)) w.0) (λ z. Fine (z.0, typed.For from w.1 v u z.1)) wrong
            (body_moved w is.0 (IsTyped e all) (Err wrong) h))))

        pub for_found : (body made : Statement) → Finds d e (IsTyped e all) (statement s (place_in d q) (declared_in d found)) (Ok body) → Stays d e
            → ((t : Table) (zs : Statements) (v u : MaybeValue) (z : typed.Statement) → StatementsStand t zs firsts.items → MaybeStands t v test → MaybeStands t u last → StatementStands t z body → StatementStands t (typed.For from zs v u z) made)
            → Finds a e (IsTyped e all) (for_here from f x y s (place_in a p) (declared_in a locals)) (Ok made)
        for_found body made h four makes =
            let second = then_kept c.table d.table e.table three.numbers four.numbers in
            let whole = then_kept b.table c.table e.table two.numbers second in
            gone_on (notes_of a) (notes_of b) (notes_of e) (AreDeclaring b found) (IsTyped e all) (first f (place_in a p) (declared_in a locals)) after_first firsts (Ok made) began (λ w is.
            gone_on (notes_of b) (notes_of c) (notes_of e) (MaybeStands c.table) (IsTyped e all) (maybe_condition w.0.env x) (λ v. after_test w v) test (Ok made)
            (env_moved b c w.0.env (MaybeStands c.table) (λ z. maybe_condition z x) (Ok test) (ap (λ z. z.env) is.0) tested)
            (λ v stands. gone_on (notes_of c) (notes_of d) (notes_of e) (MaybeStands d.table) (IsTyped e all) (maybe_in w.0.env y) (λ u. after_last w v u) last (Ok made)
            (env_moved c d w.0.env (MaybeStands d.table) (λ z. maybe_in z y) (Ok last) (two.env ∙ ap (λ z. z.env) is.0) ended)
            (λ u stood. gone_on (notes_of d) (notes_of e) (notes_of e) (IsTyped e all) (IsTyped e all) (statement s (looping (place_in a p)) w.0) (λ z. Fine (z.0, typed.For from w.1 v u z.1)) body (Ok made)
            (body_moved w is.0 (IsTyped e all) (Ok body) h)
            (λ z typed_so. ((typed_so.0, makes e.table w.1 v u z.1 (statements_stand_kept b.table e.table w.1 firsts.items whole is.1) (maybe_kept c.table e.table v test second stands) (maybe_kept d.table e.table u last four.numbers stood) typed_so.1), refl)))))

-- What a statement is, by its node.
use Rattle.std.proofs.Common.{◌≡◌, List, length, Option, Some, None, Result, refl, sym, subst}
use Rattle.std.specs.List.{All}
use Rattle.c_syntax.specs.declared.id.ExprId.{ExprId}
use Rattle.c_syntax.specs.declared.id.StmtId.{StmtId}
use Rattle.c_syntax.specs.declared.statement.Stmt.{Stmt as StmtNode}
use Rattle.c_syntax.specs.declared.statement.StmtKind.{StmtKind}
use Rattle.c_syntax.specs.declared.statement.StmtKind.TheVariants as stmts
use Rattle.c_syntax.specs.declared.statement.Entry.{Entry}
use Rattle.c_syntax.specs.declared.statement.First.{First as Begin}
use Rattle.c_syntax.specs.Nodes.{Nodes, stmt_at}
use Rattle.c_syntax.specs.Syntax.{Expr, MaybeExpr, First, Stmt, Entries, Block, Expression, If, IfElse, While, Do, For, Break, Continue, Return}
use Rattle.c_syntax.specs.Stands.{Stands, StandsMaybe, StandsStmt, StandEntries, StandsFirst}
use Rattle.c_syntax.proofs.Only.{block_only, expression_only, if_only, if_else_only, while_only, do_only, for_only, break_only, continue_only, return_only}
use Rattle.c_types_model.specs.Types.{CType}
use Rattle.c_types_table.specs.declared.ids.TypeId.{TypeId}
use Rattle.c_types_table.specs.Tables.{IsBelow, type_at}
use Rattle.c_types_rules.specs.TypedTree as typed
use Rattle.c_types_rules.specs.Statements as rules
use Rattle.c_types_rules.specs.Statements.{Declared, returned, statement}
use Rattle.c_types_program.specs.declared.statement.Statement.{Statement}
use Rattle.c_types_operators.specs.declared.error.TypeError.{TypeError}
use Rattle.c_types_operators.specs.Answers.{Agrees}
use Rattle.c_types_environment.specs.States.{notes_of, State}
use Rattle.c_types_expressions.specs.Found.{Finds, Stays}
use Rattle.c_types_statements.specs.declared.place.Surroundings.{Surroundings}
use Rattle.c_types_statements.specs.Pieces.{evaluated_in, in_loops}
use Rattle.c_types_statements.specs.Typed.{IsTyped, StatementStands, declared_in, place_in}
use Rattle.c_types_statements.specs.Walks.{IsStmt}
use Rattle.c_types_statements.proofs.Kept.{types_kept}
use Rattle.c_types_statements.proofs.Parts.{KindFits, kind_fits}
use Rattle.c_types_statements.proofs.OfPlain.{evaluated_located, in_loops_located, located, same_statement}

module _ (N : Nodes) (i : StmtId) (node : StmtNode) (at : stmt_at N i ≡ Some node) where
  -- what the numbers in the node stand for
  pub parts_of : (kind : StmtKind) → node.kind ≡ kind → IsStmt N i → KindFits N kind
  parts_of kind e h = let P : StmtKind → Type 0 = λ k. KindFits N k in subst P e (kind_fits N i node h at)

  module _ (a b : State) (is : List CType × typed.Statement → Statement → Type 0) (p : rules.Surroundings) (d : Declared) (r : Result Statement TypeError) where
    pub block_arm : (vs : List Entry) → node.kind ≡ stmts.Block vs → ((es : Entries) → StandEntries N vs es → Finds a b is (statement (Block 0 es) p d) r) → (s : Stmt) → StandsStmt N i s → Finds a b is (statement s p d) r
    block_arm vs kind h s k =
        let q = block_only N i node.from vs s (node, at, refl, kind) k in
        same_statement a b is p d r s (Block node.from q.0) (sym q.1) (h q.0 q.2)

    pub if_arm : (x : ExprId) (y : StmtId) → node.kind ≡ stmts.If x y None → ((e : Expr) (z : Stmt) → Stands N x e → StandsStmt N y z → Finds a b is (statement (If 0 e z) p d) r) → (s : Stmt) → StandsStmt N i s → Finds a b is (statement s p d) r
    if_arm x y kind h s k =
        let q = if_only N i node.from x y s (node, at, refl, kind) k in
        same_statement a b is p d r s (If node.from q.0 q.1) (sym q.2) (h q.0 q.1 q.3 q.4)

    pub if_else_arm : (x : ExprId) (y z : StmtId) → node.kind ≡ stmts.If x y (Some z) → ((e : Expr) (u v : Stmt) → Stands N x e → StandsStmt N y u → StandsStmt N z v → Finds a b is (statement (IfElse 0 e u v) p d) r)
        → (s : Stmt) → StandsStmt N i s → Finds a b is (statement s p d) r
    if_else_arm x y z kind h s k =
        let q = if_else_only N i node.from x y z s (node, at, refl, kind) k in
        same_statement a b is p d r s (IfElse node.from q.0 q.1 q.2) (sym q.3) (h q.0 q.1 q.2 q.4 q.5 q.6)

    pub while_arm : (x : ExprId) (y : StmtId) → node.kind ≡ stmts.While x y → ((e : Expr) (z : Stmt) → Stands N x e → StandsStmt N y z → Finds a b is (statement (While node.from e z) p d) r) → (s : Stmt) → StandsStmt N i s → Finds a b is (statement s p d) r
    while_arm x y kind h s k =
        let q = while_only N i node.from x y s (node, at, refl, kind) k in
        same_statement a b is p d r s (While node.from q.0 q.1) (sym q.2) (h q.0 q.1 q.3 q.4)

    pub do_arm : (x : StmtId) (y : ExprId) → node.kind ≡ stmts.Do x y → ((z : Stmt) (e : Expr) → StandsStmt N x z → Stands N y e → Finds a b is (statement (Do node.from z e) p d) r) → (s : Stmt) → StandsStmt N i s → Finds a b is (statement s p d) r
    do_arm x y kind h s k =
        let q = do_only N i node.from x y s (node, at, refl, kind) k in
        same_statement a b is p d r s (Do node.from q.0 q.1) (sym q.2) (h q.0 q.1 q.3 q.4)

    pub for_arm : (f : Begin) (x y : Option ExprId) (z : StmtId) → node.kind ≡ stmts.For f x y z
        → ((g : First) (u v : MaybeExpr) (w : Stmt) → StandsFirst N f g → StandsMaybe N x u → StandsMaybe N y v → StandsStmt N z w → Finds a b is (statement (For node.from g u v w) p d) r)
        → (s : Stmt) → StandsStmt N i s → Finds a b is (statement s p d) r
    for_arm f x y z kind h s k =
        let q = for_only N i node.from f x y z s (node, at, refl, kind) k in
        same_statement a b is p d r s (For node.from q.0 q.1 q.2 q.3) (sym q.4) (h q.0 q.1 q.2 q.3 q.5 q.6 q.7 q.8)

  module _ (a b : State) (place : Surroundings) (ids : List TypeId) (r : Result Statement TypeError) (below : All (IsBelow (length a.table.types)) ids) where
    pub expression_arm : (x : Option ExprId) → node.kind ≡ stmts.Expr x → Stays a b → ((e : MaybeExpr) → StandsMaybe N x e → Finds a b (StatementStands b.table) (evaluated_in a.env e) r)
        → (s : Stmt) → StandsStmt N i s → Finds a b (IsTyped b ids) (statement s (place_in a place) (declared_in a ids)) r
    expression_arm x kind one h s k =
        let q = expression_only N i node.from x s (node, at, refl, kind) k in
        same_statement a b (IsTyped b ids) (place_in a place) (declared_in a ids) r s (Expression node.from q.0) (sym q.1)
        (evaluated_located a b ids (declared_in a ids).locals a.env q.0 r (types_kept a.table b.table ids one.numbers below) (h q.0 q.2))

    pub return_arm : (x : Option ExprId) → node.kind ≡ stmts.Return x → Stays a b → ((e : MaybeExpr) → StandsMaybe N x e → Finds a b (StatementStands b.table) (returned a.env node.from (type_at a.table.types place.result) e) r)
        → (s : Stmt) → StandsStmt N i s → Finds a b (IsTyped b ids) (statement s (place_in a place) (declared_in a ids)) r
    return_arm x kind one h s k =
        let q = return_only N i node.from x s (node, at, refl, kind) k in
        same_statement a b (IsTyped b ids) (place_in a place) (declared_in a ids) r s (Return node.from q.0) (sym q.1)
        (located (notes_of a) (notes_of b) b ids (declared_in a ids).locals (returned a.env node.from (type_at a.table.types place.result) q.0) r (types_kept a.table b.table ids one.numbers below) (h q.0 q.2))

  module _ (a : State) (place : Surroundings) (ids : List TypeId) (made : Statement) (r : Result Statement TypeError) (h : Agrees (λ v w. v ≡ w) (in_loops node.from place.in_loop made) r) where
    pub break_arm : node.kind ≡ stmts.Break → StatementStands a.table typed.Break made → (s : Stmt) → StandsStmt N i s → Finds a a (IsTyped a ids) (statement s (place_in a place) (declared_in a ids)) r
    break_arm kind stands s k =
        same_statement a a (IsTyped a ids) (place_in a place) (declared_in a ids) r s (Break node.from) (sym (break_only N i node.from s (node, at, refl, kind) k))
        (in_loops_located a ids (declared_in a ids).locals node.from place.in_loop made typed.Break r refl stands h)

    pub continue_arm : node.kind ≡ stmts.Continue → StatementStands a.table typed.Continue made → (s : Stmt) → StandsStmt N i s → Finds a a (IsTyped a ids) (statement s (place_in a place) (declared_in a ids)) r
    continue_arm kind stands s k =
        same_statement a a (IsTyped a ids) (place_in a place) (declared_in a ids) r s (Continue node.from) (sym (continue_only N i node.from s (node, at, refl, kind) k))
        (in_loops_located a ids (declared_in a ids).locals node.from place.in_loop made typed.Continue r refl stands h)

-- Statements that declare nothing: the locals are as before.
use Rattle.std.proofs.Common.{◌≡◌, ℕ, Bool, true, false, List, Result, Ok, Err, refl, subst}
use Rattle.c_syntax.specs.Syntax.{MaybeExpr, Stmt}
use Rattle.c_types_model.specs.Types.{CType}
use Rattle.c_types_table.specs.declared.ids.TypeId.{TypeId}
use Rattle.c_types_rules.specs.Checked.{Notes, Checked, Fine, Noted, Broken, keep, ◌>>=◌, ◌>>◌}
use Rattle.c_types_rules.specs.Environment.{Environment}
use Rattle.c_types_rules.specs.TypedTree as typed
use Rattle.c_types_rules.specs.Statements as rules
use Rattle.c_types_rules.specs.Statements.{Declared, evaluated, maybe_in, statement}
use Rattle.c_types_program.specs.declared.statement.Statement.{Statement}
use Rattle.c_types_program.specs.Declarations.{types_in}
use Rattle.c_types_operators.specs.declared.error.TypeError.{TypeError}
use Rattle.c_types_operators.specs.declared.error.TypeError.TheVariants.{Rule, Memory}
use Rattle.c_types_operators.specs.Answers.{Agrees}
use Rattle.c_types_environment.specs.States.{notes_of, State}
use Rattle.c_types_expressions.specs.Found.{Found, Finds}
use Rattle.c_types_expressions.proofs.Sequences.{in_turn}
use Rattle.c_types_statements.specs.Pieces.{evaluated_in, in_loops}
use Rattle.c_types_statements.specs.Typed.{IsTyped, StatementStands}

-- a statement that was found, beside the locals
pub located : (l m : Notes) (s : State) (ids : List TypeId) (cs : List CType) (c : Checked typed.Statement) (r : Result Statement TypeError)
    → types_in s.table.types ids ≡ cs → Found l m (StatementStands s.table) c r → Found l m (IsTyped s ids) (c >>= (λ x. Fine (cs, x))) r
located l m s ids cs (Fine x) (Ok y) e h = ((e, h.0), h.1)
located l m s ids cs (Noted n x) (Ok y) e h = ((e, h.0), h.1)
located l m s ids cs (Broken from rule) (Ok y) e h = absurd h
located l m s ids cs (Fine x) (Err (Rule f q)) e h = absurd h
located l m s ids cs (Noted n x) (Err (Rule f q)) e h = absurd h
located l m s ids cs (Broken from rule) (Err (Rule f q)) e h = h
located l m s ids cs (Fine x) (Err Memory) e h = tt
located l m s ids cs (Noted n x) (Err Memory) e h = tt
located l m s ids cs (Broken from rule) (Err Memory) e h = tt

-- a value that isn't used
pub evaluated_located : (a b : State) (ids : List TypeId) (cs : List CType) (env : Environment) (x : MaybeExpr) (r : Result Statement TypeError)
    → types_in b.table.types ids ≡ cs → Finds a b (StatementStands b.table) (evaluated_in env x) r → Finds a b (IsTyped b ids) (maybe_in env x >>= (λ v. Fine (cs, evaluated v))) r
evaluated_located a b ids cs env x r e h =
    let P : Checked (List CType × typed.Statement) → Type 0 = λ c. Finds a b (IsTyped b ids) c r in
    subst P (in_turn (maybe_in env x) (λ v. Fine (evaluated v)) (λ y. Fine (cs, y))) (located (notes_of a) (notes_of b) b ids cs (evaluated_in env x) r e h)

-- `break` and `continue`
pub in_loops_located : (s : State) (ids : List TypeId) (cs : List CType) (from : ℕ) (in_loop : Bool) (x : Statement) (y : typed.Statement) (r : Result Statement TypeError)
    → types_in s.table.types ids ≡ cs → StatementStands s.table y x → Agrees (λ v w. v ≡ w) (in_loops from in_loop x) r → Finds s s (IsTyped s ids) (keep from 11 in_loop >> Fine (cs, y)) r
in_loops_located s ids cs from true x y (Ok z) e k h = ((e, subst (StatementStands s.table y) h k), refl)
in_loops_located s ids cs from true x y (Err (Rule f q)) e k h = absurd h
in_loops_located s ids cs from true x y (Err Memory) e k h = tt
in_loops_located s ids cs from false x y (Ok z) e k h = absurd h
in_loops_located s ids cs from false x y (Err (Rule f q)) e k h = h
in_loops_located s ids cs from false x y (Err Memory) e k h = tt

-- a statement that is the same
pub same_statement : {B : Type 0} (a b : State) (is : List CType × typed.Statement → B → Type 0) (p : rules.Surroundings) (d : Declared) (r : Result B TypeError) (s z : Stmt) → z ≡ s → Finds a b is (statement z p d) r → Finds a b is (statement s p d) r
same_statement a b is p d r s z e h = let P : Stmt → Type 0 = λ w. Finds a b is (statement w p d) r in subst P e h

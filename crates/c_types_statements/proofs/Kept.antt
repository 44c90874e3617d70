-- What is kept while statements are read.
use Rattle.std.proofs.Common.{◌≡◌, ℕ, true, List, [], ◌∷◌, ◌++◌, length, Option, Some, None, Result, refl, sym, ap, ◌∙◌, subst}
use Rattle.c_syntax.specs.Syntax.{Stmt}
use Rattle.std.specs.List.{All}
use Rattle.std.proofs.lemmas.List.Elements.{All-head, All-push, All-tail, All-weaker}
use Rattle.c_types_model.specs.Types.{CType}
use Rattle.c_types_table.specs.declared.ids.TypeId.{TypeId}
use Rattle.c_types_table.specs.Tables.{IsBelow, type_at}
use Rattle.c_types_rules.specs.TypedTree as typed
use Rattle.c_types_rules.specs.TypedTree.{Value, AValue, MoreStatements}
use Rattle.c_types_rules.specs.Checked.{Checked}
use Rattle.c_types_rules.specs.Environment.{Environment}
use Rattle.c_types_rules.specs.Statements as rules
use Rattle.c_types_rules.specs.Statements.{Declared, looping, outside, statement}
use Rattle.c_types_nodes.specs.declared.ids.NodeId.{NodeId}
use Rattle.c_types_nodes.specs.Parts.{value_in}
use Rattle.c_types_nodes.specs.Tables.{Table, Keeps, IsValueAt, value_at}
use Rattle.c_types_program.specs.declared.statement.Statement.{Statement}
use Rattle.c_types_program.specs.Statements.{AllStatements, statement_in, statements_in}
use Rattle.c_types_program.specs.Declarations.{types_in}
use Rattle.c_types_program.proofs.Kept.{is_statement_kept, statement_kept, value_kept, is_value_kept, type_kept, is_type_kept}
use Rattle.c_types_operators.specs.declared.error.TypeError.{TypeError}
use Rattle.c_types_operators.specs.Answers.{IsAt}
use Rattle.c_types_environment.specs.States.{State}
use Rattle.c_types_expressions.specs.Found.{Finds, Stays}
use Rattle.c_types_statements.specs.declared.place.Surroundings.{Surroundings}
use Rattle.c_types_statements.specs.Typed.{MaybeStands, StatementStands, StatementsStand, declared_in, place_in}

-- ---- numbers of types

pub below_kept : (t u : Table) (ids : List TypeId) → Keeps t u → All (IsBelow (length t.types)) ids → All (IsBelow (length u.types)) ids
below_kept t u ids k h = All-weaker (IsBelow (length t.types)) (IsBelow (length u.types)) (λ id l. is_type_kept t u k id l) ids h

pub types_kept : (t u : Table) (ids : List TypeId) → Keeps t u → All (IsBelow (length t.types)) ids → types_in u.types ids ≡ types_in t.types ids
types_kept t u [] k h = refl
types_kept t u (id ∷ ids) k h =
    let first : type_at u.types id ≡ type_at t.types id = type_kept t u k id (All-head (IsBelow (length t.types)) id ids h) in
    let rest : types_in u.types ids ≡ types_in t.types ids = types_kept t u ids k (All-tail (IsBelow (length t.types)) id ids h) in
    ap (λ c. c ∷ types_in u.types ids) first ∙ ap (λ cs. type_at t.types id ∷ cs) rest

pub place_kept : (a b : State) (p : Surroundings) → Keeps a.table b.table → IsBelow (length a.table.types) p.result → place_in b p ≡ place_in a p
place_kept a b p k h = ap (λ c. record { result = c; in_loop = p.in_loop }) (type_kept a.table b.table k p.result h)

pub declared_kept : (a b : State) (ids : List TypeId) → Stays a b → All (IsBelow (length a.table.types)) ids → declared_in b ids ≡ declared_in a ids
declared_kept a b ids k h = ap (λ e. record { env = e; locals = types_in b.table.types ids }) k.env ∙ ap (λ cs. record { env = a.env; locals = cs }) (types_kept a.table b.table ids k.numbers h)

-- ---- what stands for what

pub maybe_kept : (t u : Table) (v : typed.MaybeValue) (id : Option NodeId) → Keeps t u → MaybeStands t v id → MaybeStands u v id
maybe_kept t u v None k h = record { inside = tt; is = h.is }
maybe_kept t u v (Some id) k h = record { inside = is_value_kept t u k id h.inside; is = ap typed.OneValue (value_kept t u k id h.inside) ∙ h.is }

pub value_stands : (t : Table) (x : Value) (id : NodeId) → IsAt t x id → (value_at t id ≡ x) × IsValueAt t id
value_stands t x id h = let same : value_at t id ≡ x = ap value_in h in (same, h ∙ ap (λ v. Some (AValue v)) (sym same))

pub at_kept : (t u : Table) (x : Value) (id : NodeId) → Keeps t u → IsAt t x id → IsAt u x id
at_kept t u x id k h = k.nodes id (AValue x) h

pub statement_stands_kept : (t u : Table) (x : typed.Statement) (s : Statement) → Keeps t u → StatementStands t x s → StatementStands u x s
statement_stands_kept t u x s k h = record { inside = is_statement_kept t u k s h.inside; is = statement_kept t u k s h.inside ∙ h.is }

all_kept : (t u : Table) (ss : List Statement) → Keeps t u → AllStatements t ss → AllStatements u ss
all_kept t u [] k h = tt
all_kept t u (s ∷ ss) k h = (is_statement_kept t u k s h.0, all_kept t u ss k h.1)

meanings_kept : (t u : Table) (ss : List Statement) → Keeps t u → AllStatements t ss → statements_in u ss ≡ statements_in t ss
meanings_kept t u [] k h = refl
meanings_kept t u (s ∷ ss) k h = ap (λ x. MoreStatements x (statements_in u ss)) (statement_kept t u k s h.0) ∙ ap (MoreStatements (statement_in t s)) (meanings_kept t u ss k h.1)

pub statements_stand_kept : (t u : Table) (xs : typed.Statements) (ss : List Statement) → Keeps t u → StatementsStand t xs ss → StatementsStand u xs ss
statements_stand_kept t u xs ss k h = record { inside = all_kept t u ss k h.inside; is = meanings_kept t u ss k h.inside ∙ h.is }

-- ---- where reading goes on

-- what was read where the same is declared
pub env_moved : {A B : Type 0} (b c : State) (e : Environment) (is : A → B → Type 0) (f : Environment → Checked A) (r : Result B TypeError) → b.env ≡ e → Finds b c is (f b.env) r → Finds b c is (f e) r
env_moved b c e is f r same h = let P : Environment → Type 0 = λ z. Finds b c is (f z) r in subst P same h

-- a statement that was read in another place, which is the same
pub statement_moved : {B : Type 0} (b c : State) (q : Surroundings) (locals : List TypeId) (is : List CType × typed.Statement → B → Type 0) (s : Stmt) (r : Result B TypeError) (p : rules.Surroundings) (d : Declared)
    → place_in b q ≡ p → declared_in b locals ≡ d → Finds b c is (statement s (place_in b q) (declared_in b locals)) r → Finds b c is (statement s p d) r
statement_moved b c q locals is s r p d e f h =
    let P : rules.Surroundings → Type 0 = λ z. Finds b c is (statement s z (declared_in b locals)) r in
    let Q : Declared → Type 0 = λ z. Finds b c is (statement s p z) r in
    subst Q f (subst P e h)

-- what is declared where the locals have these types
pub declared_moved : (a b : State) (locals : List TypeId) (l : List CType) → b.env ≡ a.env → types_in b.table.types locals ≡ l → declared_in b locals ≡ outside a.env l
declared_moved a b locals l e f = ap (λ z. record { env = z; locals = types_in b.table.types locals }) e ∙ ap (λ z. record { env = a.env; locals = z }) f

pub looping_kept : (a b : State) (p q : Surroundings) → q ≡ record p { in_loop = true } → Keeps a.table b.table → IsBelow (length a.table.types) p.result → place_in b q ≡ looping (place_in a p)
looping_kept a b p q e k h = ap (place_in b) e ∙ ap looping (place_kept a b p k h)

pub looping_inside : (t u : Table) (p q : Surroundings) → q ≡ record p { in_loop = true } → Keeps t u → IsBelow (length t.types) p.result → IsBelow (length u.types) q.result
looping_inside t u p q e k h = let P : Surroundings → Type 0 = λ z. IsBelow (length u.types) z.result in subst P (sym e) (is_type_kept t u k p.result h)

-- one more number
pub one_more_below : (n : ℕ) (ids new : List TypeId) (id : TypeId) → new ≡ ids ++ id ∷ [] → All (IsBelow n) ids → IsBelow n id → All (IsBelow n) new
one_more_below n ids new id e h k = subst (All (IsBelow n)) (sym e) (All-push (IsBelow n) ids id h k)

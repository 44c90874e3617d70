-- A typed body names globals that are declared and strings that stand in the source.
use Rattle.std.proofs.Common.{◌≡◌, ℕ, ◌+◌, ◌<◌, Bool, true, false, cond, List, [], ◌∷◌, ◌++◌, length, Option, Some, None, refl}
use Rattle.std.specs.Option.{option_or}
use Rattle.c_syntax.specs.Syntax.{Expr, MaybeExpr, Decl, Decls, Parts, Rest, Stmt, Entries, Entry, First, NoExpr, OneExpr, Declare, NoDecls, MoreDecls, Plain, Braces, NoRest, Initial, Body, Members, Block, Expression, If, IfElse, While, Do, For, Break, Continue, Return, NoEntries, MoreEntries, LocalEntry, StmtEntry, NoFirst, LocalFirst, ExprFirst}
use Rattle.c_types_model.specs.Types.{CType, CTypes, Void, Integer, PointerTo, ArrayOf, StructOf, UndefinedStruct, FunctionOf, NoTypes, MoreTypes}
use Rattle.c_scopes.specs.Scopes.{Scope, meaning_in, meaning_of, same_name}
use Rattle.c_scopes.specs.Scopes as scopes
use Rattle.c_types_rules.specs.Checked.{Fine as Right, heard, keep, ◌>>=◌}
use Rattle.c_types_rules.specs.TypeTests.{is_scalar, is_void}
use Rattle.c_types_rules.specs.Environment.{Environment, Meaning, GlobalNamed, LocalNamed, declarable, extents, inner, with_name}
use Rattle.c_types_rules.specs.Expressions.{complete, declared_name, declared_type, expression, with_parameter, start_of, parameter_types}
use Rattle.c_types_rules.specs.Operators.{assigned, scalar}
use Rattle.c_types_rules.specs.TypedTree.{Value, MaybeValue, NoValue, OneValue, Statement, Statements, joined, value_of}
use Rattle.c_types_rules.specs.TypedTree as typed
use Rattle.c_types_rules.specs.Statements.{Declared, Surroundings, condition_in, entries, entry, evaluated, first, first_value, inside, local, locals_of, looping, maybe_condition, maybe_in, outside, returned, statement, value_in}
use Rattle.c_types_rules.specs.Sources.{block_of, body_of, listed, nearest, parameter, parameters, params_of, result_of, block_body}
use Rattle.c_lower_laws.proofs.Held.{Holds, holds_heard, holds_then, holds_on, holds_after, holds_kept}
use Rattle.c_lower.specs.Named.{maybe_names, statement_names, statements_names}
use Rattle.whole_runs_sources.proofs.Strings.{HasDecl, HasDecls, HasEntries, HasEntry, HasExpr, HasFirst, HasMaybe, HasRest, HasStmt}
use Rattle.whole_runs_sources.proofs.KnownExpressions.{All as Fine, KnownValue, KnownTyped, NamesAre as Named, assigned_known, expression_known, left, none, pair, right, value_known}

-- ---- names

pub or_none : {A : Type 0} (o : Option A) → option_or o None ≡ o
or_none (Some a) = refl
or_none None = refl

module _ (G : ℕ) (T : List ℕ) where
  abbrev pub Names : Environment → Type 0
  Names env = Named G T env

  -- a local of this name hides nothing but functions of this name
  local_names : (env : Environment) (name : List ℕ) (place : ℕ) (t : CType) → Names env → Names (with_name env name (LocalNamed place t))
  local_names env name place t ns = by env.scopes ns
    where
      by : (ss : List (Scope Meaning)) → ((n : List ℕ) (number : ℕ) (u : CType) → meaning_of n ss ≡ Some (GlobalNamed number u) → number < G) → (n : List ℕ) (number : ℕ) (u : CType) → meaning_of n (scopes.declared name (LocalNamed place t) ss) ≡ Some (GlobalNamed number u) → number < G
      by [] k n number u e = k n number u e
      by (scope ∷ outer) k n number u e = at (same_name n name) e
        where
          at : (b : Bool) → option_or (cond b (Some (LocalNamed place t)) (meaning_in n scope)) (meaning_of n outer) ≡ Some (GlobalNamed number u) → number < G
          at true e = absurd cc
          at false e = k n number u e

  parameter_names : (env : Environment) (from place : ℕ) (n : Option (List ℕ)) (t : CType) → Names env → Holds Names (with_parameter env from place n t)
  parameter_names env from place None t ns = ns
  parameter_names env from place (Some name) t ns = holds_after Names (declarable env from name) _ (local_names env name place t ns)

  parameters_names : (ds : Decls) (env : Environment) (place : ℕ) (ts : CTypes) → Names env → Holds Names (parameters ds env place ts)
  parameters_names NoDecls env place ts ns = ns
  parameters_names (MoreDecls d ds) env place NoTypes ns = ns
  parameters_names (MoreDecls d ds) env place (MoreTypes t ts) ns =
      holds_then Names Names (parameter d env place t) _ (one d) (λ within k. parameters_names ds within (place + 1) ts k)
    where
      one : (d : Decl) → Holds Names (parameter d env place t)
      one (Declare from an b ps n r) = holds_after Names (keep from 21 _) _ (parameter_names env from place n t ns)

  abbrev pub V : Value → Type 0
  V v = KnownValue G T v

  abbrev pub M : MaybeValue → Type 0
  M v = Fine G T (maybe_names T v)

  value_in_known : (env : Environment) (e : Expr) → Names env → HasExpr T e → Holds V (value_in env e)
  value_in_known env e ns x = holds_then (KnownTyped G T) V (expression e env) _ (expression_known G T e env ns x) (λ a h. value_known G T a h)

  maybe_in_known : (env : Environment) (e : MaybeExpr) → Names env → HasMaybe T e → Holds M (maybe_in env e)
  maybe_in_known env NoExpr ns x = none G T
  maybe_in_known env (OneExpr e) ns x = holds_then V M (value_in env e) _ (value_in_known env e ns x) (λ v h. h)

  condition_known : (env : Environment) (e : Expr) → Names env → HasExpr T e → Holds V (condition_in env e)
  condition_known env e ns x = holds_then V V (value_in env e) _ (value_in_known env e ns x) (λ v h. holds_after V (scalar (start_of e) v) _ h)

  maybe_condition_known : (env : Environment) (e : MaybeExpr) → Names env → HasMaybe T e → Holds M (maybe_condition env e)
  maybe_condition_known env NoExpr ns x = none G T
  maybe_condition_known env (OneExpr e) ns x = holds_then V M (condition_in env e) _ (condition_known env e ns x) (λ v h. h)

  -- ---- statements

  abbrev pub S : Statement → Type 0
  S s = Fine G T (statement_names T s)

  abbrev pub All : Statements → Type 0
  All ss = Fine G T (statements_names T ss)

  joined_known : (a b : Statements) → All a → All b → All (joined a b)
  joined_known typed.NoStatements b h k = k
  joined_known (typed.MoreStatements s a) b h k =
      pair G T (left G T (statement_names T s) (statements_names T a) h) (joined_known a b (right G T (statement_names T s) (statements_names T a) h) k)

  first_value_known : (env : Environment) (from place : ℕ) (t : CType) (r : Rest) → Names env → HasRest T r → Holds All (first_value env from place t r)
  first_value_known env from place t NoRest ns x = none G T
  first_value_known env from place t (Initial (Plain e)) ns x =
      holds_after All (keep from 17 (is_scalar t)) (value_in env e >>= (λ v. assigned (start_of e) t v >>= (λ w. Right (typed.MoreStatements (typed.Initialise place t w) typed.NoStatements)))) (holds_then V All (value_in env e) _ (value_in_known env e ns x)
      (λ v h. holds_then V All (assigned (start_of e) t v) _ (assigned_known G T (start_of e) t v h) (λ w k. pair G T k (none G T))))
  first_value_known env from place t (Initial (Braces at vs)) ns x = tt
  first_value_known env from place t (Body s) ns x = tt
  first_value_known env from place t (Members ds) ns x = tt

  -- what is declared with statements
  abbrev pub Declares : Declared × Statements → Type 0
  Declares a = Names a.0.env × All a.1

  abbrev pub Makes : List CType × Statement → Type 0
  Makes a = S a.1

  abbrev pub MakesAll : List CType × Statements → Type 0
  MakesAll a = All a.1

  local_declares : (e : Decl) (d : Declared) → Names d.env → HasDecl T e → Holds Declares (local e d)
  local_declares (Declare from an b ps n r) d ns x =
      holds_on Declares (declared_type (Declare from an b ps n r) d.env) _ (λ t.
      holds_after Declares (complete (extents d.env) from t) _ (holds_after Declares (declarable d.env from (declared_name n)) _
      (let within = local_names d.env (declared_name n) (length d.locals) t ns in
      holds_then All Declares (first_value (with_name d.env (declared_name n) (LocalNamed (length d.locals) t)) from (length d.locals) t r) (λ ss. Right (record { env = with_name d.env (declared_name n) (LocalNamed (length d.locals) t); locals = d.locals ++ t ∷ [] }, ss))
      (first_value_known (with_name d.env (declared_name n) (LocalNamed (length d.locals) t)) from (length d.locals) t r within x.2) (λ ss h. (within, h)))))

  locals_declare : (es : Decls) (d : Declared) → Names d.env → HasDecls T es → Holds Declares (locals_of es d)
  locals_declare NoDecls d ns x = (ns, none G T)
  locals_declare (MoreDecls e es) d ns x =
      holds_then Declares Declares (local e d) _ (local_declares e d ns x.0)
      (λ a h. holds_then Declares Declares (locals_of es a.0) _ (locals_declare es a.0 h.0 x.1)
      (λ b k. (k.0, joined_known a.1 b.1 h.1 k.1)))

  return_known : (env : Environment) (from : ℕ) (t : CType) (e : Expr) → Names env → HasExpr T e → Holds S (value_in env e >>= (λ v. assigned (start_of e) t v >>= (λ w. Right (typed.Return from (OneValue w)))))
  return_known env from t e ns x =
      holds_then V S (value_in env e) _ (value_in_known env e ns x) (λ v h. holds_then V S (assigned (start_of e) t v) _ (assigned_known G T (start_of e) t v h) (λ w k. k))

  returned_known : (env : Environment) (from : ℕ) (t : CType) (e : MaybeExpr) → Names env → HasMaybe T e → Holds S (returned env from t e)
  returned_known env from t NoExpr ns x = holds_after S (keep from 12 (is_void t)) (Right (typed.Return from NoValue)) (none G T)
  returned_known env from Void (OneExpr e) ns x = tt
  returned_known env from (Integer k) (OneExpr e) ns x = return_known env from (Integer k) e ns x
  returned_known env from (PointerTo t) (OneExpr e) ns x = return_known env from (PointerTo t) e ns x
  returned_known env from (ArrayOf n t) (OneExpr e) ns x = return_known env from (ArrayOf n t) e ns x
  returned_known env from (StructOf n) (OneExpr e) ns x = return_known env from (StructOf n) e ns x
  returned_known env from (UndefinedStruct tag) (OneExpr e) ns x = return_known env from (UndefinedStruct tag) e ns x
  returned_known env from (FunctionOf r ts) (OneExpr e) ns x = return_known env from (FunctionOf r ts) e ns x

  evaluated_known : (v : MaybeValue) → M v → S (evaluated v)
  evaluated_known NoValue h = none G T
  evaluated_known (OneValue v) h = h

  mutual
    statement_known : (s : Stmt) (p : Surroundings) (d : Declared) → Names d.env → HasStmt T s → Holds Makes (statement s p d)
    statement_known (Block from es) p d ns x = holds_then MakesAll Makes (entries es p (inside d)) _ (entries_known es p (inside d) ns x) (λ a h. h)
    statement_known (Expression from e) p d ns x = holds_then M Makes (maybe_in d.env e) _ (maybe_in_known d.env e ns x) (λ v h. evaluated_known v h)
    statement_known (If from e s) p d ns x =
        holds_then V Makes (condition_in d.env e) _ (condition_known d.env e ns x.0)
        (λ c h. holds_then Makes Makes (statement s p d) _ (statement_known s p d ns x.1) (λ a k. pair G T h k))
    statement_known (IfElse from e s z) p d ns x =
        holds_then V Makes (condition_in d.env e) _ (condition_known d.env e ns x.0)
        (λ c h. holds_then Makes Makes (statement s p d) _ (statement_known s p d ns x.1)
        (λ a k. holds_then Makes Makes (statement z p (outside d.env a.0)) _ (statement_known z p (outside d.env a.0) ns x.2) (λ b j. pair G T h (pair G T k j))))
    statement_known (While from e s) p d ns x =
        holds_then V Makes (condition_in d.env e) _ (condition_known d.env e ns x.0)
        (λ c h. holds_then Makes Makes (statement s (looping p) d) _ (statement_known s (looping p) d ns x.1) (λ a k. pair G T h k))
    statement_known (Do from s e) p d ns x =
        holds_then Makes Makes (statement s (looping p) d) _ (statement_known s (looping p) d ns x.0)
        (λ a h. holds_then V Makes (condition_in d.env e) _ (condition_known d.env e ns x.1) (λ c k. pair G T h k))
    statement_known (For from f e l s) p d ns x =
        holds_then Declares Makes (first f p (inside d)) _ (first_known f p (inside d) ns x.0)
        (λ a h. holds_then M Makes (maybe_condition a.0.env e) _ (maybe_condition_known a.0.env e h.0 x.1)
        (λ c k. holds_then M Makes (maybe_in a.0.env l) _ (maybe_in_known a.0.env l h.0 x.2)
        (λ z j. holds_then Makes Makes (statement s (looping p) a.0) _ (statement_known s (looping p) a.0 h.0 x.3) (λ b i. pair G T h.1 (pair G T k (pair G T j i))))))
    statement_known (Break from) p d ns x = holds_kept Makes from 11 p.in_loop (Right (d.locals, typed.Break)) (λ is. none G T)
    statement_known (Continue from) p d ns x = holds_kept Makes from 11 p.in_loop (Right (d.locals, typed.Continue)) (λ is. none G T)
    statement_known (Return from e) p d ns x = holds_then S Makes (returned d.env from p.result e) _ (returned_known d.env from p.result e ns x) (λ s h. h)

    entries_known : (es : Entries) (p : Surroundings) (d : Declared) → Names d.env → HasEntries T es → Holds MakesAll (entries es p d)
    entries_known NoEntries p d ns x = none G T
    entries_known (MoreEntries e es) p d ns x =
        holds_then Declares MakesAll (entry e p d) _ (entry_known e p d ns x.0)
        (λ a h. holds_then MakesAll MakesAll (entries es p a.0) _ (entries_known es p a.0 h.0 x.1) (λ b k. joined_known a.1 b.1 h.1 k))

    entry_known : (e : Entry) (p : Surroundings) (d : Declared) → Names d.env → HasEntry T e → Holds Declares (entry e p d)
    entry_known (LocalEntry ds) p d ns x = locals_declare ds d ns x
    entry_known (StmtEntry s) p d ns x = holds_then Makes Declares (statement s p d) _ (statement_known s p d ns x) (λ a h. (ns, pair G T h (none G T)))

    first_known : (f : First) (p : Surroundings) (d : Declared) → Names d.env → HasFirst T f → Holds Declares (first f p d)
    first_known NoFirst p d ns x = (ns, none G T)
    first_known (LocalFirst ds) p d ns x = locals_declare ds d ns x
    first_known (ExprFirst e) p d ns x = holds_then V Declares (value_in d.env e) _ (value_in_known d.env e ns x) (λ v h. (ns, pair G T h (none G T)))

  block_known : (s : Stmt) (p : Surroundings) (d : Declared) → Names d.env → HasStmt T s → Holds Makes (block_of s p d)
  block_known (Block from es) p d ns x = holds_then MakesAll Makes (entries es p d) _ (entries_known es p d ns x) (λ a h. h)
  block_known s p d ns x = statement_known s p d ns x

  block_body_known : (env : Environment) (t : CType) (ps : Parts) (s : Stmt) → Names env → HasStmt T s → Holds (λ b. S b.statements) (block_body env t ps s)
  block_body_known env t ps s ns x =
      holds_then Names (λ b. S b.statements) (parameters (nearest ps) (inner env) 0 (params_of t)) _ (parameters_names (nearest ps) (inner env) 0 (params_of t) ns)
      (λ within h. holds_then (λ a. Makes a.0) (λ b. S b.statements) (heard (block_of s (record { result = result_of t; in_loop = false }) (record { env = within; locals = listed (params_of t) }))) _
      (holds_heard Makes (block_of s (record { result = result_of t; in_loop = false }) (record { env = within; locals = listed (params_of t) })) (block_known s (record { result = result_of t; in_loop = false }) (record { env = within; locals = listed (params_of t) }) h x)) (λ a k. k))

  pub body_known : (env : Environment) (t : CType) (ps : Parts) (s : Stmt) → Names env → HasStmt T s → Holds (λ b. S b.statements) (body_of env t ps s)
  body_known env t ps s ns x =
      holds_on (λ b. S b.statements) (heard (parameter_types (nearest ps) (inner env) 0)) _ (λ vs. holds_then (λ b. S b.statements) (λ b. S b.statements) (block_body env t ps s) _ (block_body_known env t ps s ns x) (λ b h. h))

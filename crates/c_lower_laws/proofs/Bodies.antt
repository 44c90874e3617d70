-- In a typed body each call has one value per parameter.
use Rattle.std.proofs.Common.{◌≡◌, ℕ, ◌+◌, Bool, true, false, cond, List, [], ◌∷◌, ◌++◌, length, Option, Some, None, refl}
use Rattle.std.specs.Option.{option_or}
use Rattle.c_syntax.specs.Syntax.{Expr, MaybeExpr, Decl, Decls, Parts, Rest, Stmt, Entries, Entry, First, NoExpr, OneExpr, Declare, NoDecls, MoreDecls, Plain, Braces, NoRest, Initial, Body, Members, Block, Expression, If, IfElse, While, Do, For, Break, Continue, Return, NoEntries, MoreEntries, LocalEntry, StmtEntry, NoFirst, LocalFirst, ExprFirst}
use Rattle.c_types_model.specs.Types.{CType, CTypes, Void, Integer, PointerTo, ArrayOf, StructOf, UndefinedStruct, FunctionOf, NoTypes, MoreTypes}
use Rattle.c_scopes.specs.Scopes.{Scope, meaning_in, meaning_of, same_name}
use Rattle.c_scopes.specs.Scopes as scopes
use Rattle.c_types_rules.specs.Checked.{Checked, Fine, Noted, Broken, heard, keep, ◌>>=◌, ◌>>◌}
use Rattle.c_types_rules.specs.TypeTests.{is_scalar, is_void}
use Rattle.c_types_rules.specs.Environment.{Environment, Meaning, FunctionNamed, LocalNamed, declarable, extents, inner, with_name}
use Rattle.c_types_rules.specs.Expressions.{complete, declared_name, declared_type, expression, with_parameter, start_of, parameter_types}
use Rattle.c_types_rules.specs.Operators.{assigned, scalar}
use Rattle.c_types_rules.specs.TypedTree.{Value, MaybeValue, NoValue, OneValue, Statement, Statements, joined, value_of}
use Rattle.c_types_rules.specs.TypedTree as typed
use Rattle.c_types_rules.specs.Statements.{Declared, Surroundings, condition_in, entries, entry, evaluated, first, first_value, inside, local, locals_of, looping, maybe_condition, maybe_in, outside, returned, statement, value_in}
use Rattle.c_types_rules.specs.Sources.{block_of, body_of, listed, nearest, parameter, parameters, params_of, result_of, block_body}
use Rattle.c_lower_laws.proofs.Held.{Holds, holds_heard, holds_then, holds_on, holds_after}
use Rattle.c_lower_placement.specs.Code.{Making}
use Rattle.c_lower_placement.specs.Heights.{MaybeCalls, StatementCalls, StatementsCall}
use Rattle.c_lower_laws.proofs.Values.{Counts, CountsTyped, IsAt, NamesAre, Serves, assigned_counts, expression_counts, value_counts}

-- ---- names

pub or_none : {A : Type 0} (o : Option A) → option_or o None ≡ o
or_none (Some a) = refl
or_none None = refl

-- a local of this name hides nothing but functions of this name
local_names : (us : List CType) (env : Environment) (name : List ℕ) (place : ℕ) (t : CType) → NamesAre us env → NamesAre us (with_name env name (LocalNamed place t))
local_names us env name place t ns = by env.scopes ns
  where
    by : (ss : List (Scope Meaning)) → ((n : List ℕ) (number : ℕ) (u : CType) → meaning_of n ss ≡ Some (FunctionNamed number u) → IsAt us number u) → (n : List ℕ) (number : ℕ) (u : CType) → meaning_of n (scopes.declared name (LocalNamed place t) ss) ≡ Some (FunctionNamed number u) → IsAt us number u
    by [] k n number u e = k n number u e
    by (scope ∷ outer) k n number u e = at (same_name n name) e
      where
        at : (b : Bool) → option_or (cond b (Some (LocalNamed place t)) (meaning_in n scope)) (meaning_of n outer) ≡ Some (FunctionNamed number u) → IsAt us number u
        at true e = absurd cc
        at false e = k n number u e

parameter_names : (us : List CType) (env : Environment) (from place : ℕ) (n : Option (List ℕ)) (t : CType) → NamesAre us env → Holds (NamesAre us) (with_parameter env from place n t)
parameter_names us env from place None t ns = ns
parameter_names us env from place (Some name) t ns = holds_after (NamesAre us) (declarable env from name) _ (local_names us env name place t ns)

parameters_names : (us : List CType) (ds : Decls) (env : Environment) (place : ℕ) (ts : CTypes) → NamesAre us env → Holds (NamesAre us) (parameters ds env place ts)
parameters_names us NoDecls env place ts ns = ns
parameters_names us (MoreDecls d ds) env place NoTypes ns = ns
parameters_names us (MoreDecls d ds) env place (MoreTypes t ts) ns =
    holds_then (NamesAre us) (NamesAre us) (parameter d env place t) _ (one d) (λ within k. parameters_names us ds within (place + 1) ts k)
  where
    one : (d : Decl) → Holds (NamesAre us) (parameter d env place t)
    one (Declare from an b ps n r) = holds_after (NamesAre us) (keep from 21 _) _ (parameter_names us env from place n t ns)

module _ (x : Making) (us : List CType) (serves : Serves x us) where
  abbrev pub V : Value → Type 0
  V = Counts x us serves

  abbrev pub M : MaybeValue → Type 0
  M v = MaybeCalls v x

  value_in_counts : (env : Environment) (e : Expr) → NamesAre us env → Holds V (value_in env e)
  value_in_counts env e ns = holds_then (CountsTyped x us serves) V (expression e env) _ (expression_counts x us serves e env ns) (λ a h. value_counts x us serves a h)

  maybe_in_counts : (env : Environment) (e : MaybeExpr) → NamesAre us env → Holds M (maybe_in env e)
  maybe_in_counts env NoExpr ns = tt
  maybe_in_counts env (OneExpr e) ns = holds_then V M (value_in env e) _ (value_in_counts env e ns) (λ v h. h)

  condition_counts : (env : Environment) (e : Expr) → NamesAre us env → Holds V (condition_in env e)
  condition_counts env e ns = holds_then V V (value_in env e) _ (value_in_counts env e ns) (λ v h. holds_after V (scalar (start_of e) v) _ h)

  maybe_condition_counts : (env : Environment) (e : MaybeExpr) → NamesAre us env → Holds M (maybe_condition env e)
  maybe_condition_counts env NoExpr ns = tt
  maybe_condition_counts env (OneExpr e) ns = holds_then V M (condition_in env e) _ (condition_counts env e ns) (λ v h. h)

  -- ---- statements

  abbrev pub S : Statement → Type 0
  S s = StatementCalls s x

  abbrev pub All : Statements → Type 0
  All ss = StatementsCall ss x

  joined_count : (a b : Statements) → All a → All b → All (joined a b)
  joined_count typed.NoStatements b h k = k
  joined_count (typed.MoreStatements s a) b h k = (h.0, joined_count a b h.1 k)

  first_value_counts : (env : Environment) (from place : ℕ) (t : CType) (r : Rest) → NamesAre us env → Holds All (first_value env from place t r)
  first_value_counts env from place t NoRest ns = tt
  first_value_counts env from place t (Initial (Plain e)) ns =
      holds_after All (keep from 17 (is_scalar t)) (value_in env e >>= (λ v. assigned (start_of e) t v >>= (λ w. Fine (typed.MoreStatements (typed.Initialise place t w) typed.NoStatements)))) (holds_then V All (value_in env e) _ (value_in_counts env e ns)
      (λ v h. holds_then V All (assigned (start_of e) t v) _ (assigned_counts x us serves (start_of e) t v h) (λ w k. (k, tt))))
  first_value_counts env from place t (Initial (Braces at vs)) ns = tt
  first_value_counts env from place t (Body s) ns = tt
  first_value_counts env from place t (Members ds) ns = tt

  -- what is declared with statements
  abbrev pub Declares : Declared × Statements → Type 0
  Declares a = NamesAre us a.0.env × All a.1

  abbrev pub Makes : List CType × Statement → Type 0
  Makes a = S a.1

  abbrev pub MakesAll : List CType × Statements → Type 0
  MakesAll a = All a.1

  local_declares : (e : Decl) (d : Declared) → NamesAre us d.env → Holds Declares (local e d)
  local_declares (Declare from an b ps n r) d ns =
      holds_on Declares (declared_type (Declare from an b ps n r) d.env) _ (λ t.
      holds_after Declares (complete (extents d.env) from t) _ (holds_after Declares (declarable d.env from (declared_name n)) _
      (let within = local_names us d.env (declared_name n) (length d.locals) t ns in
      holds_then All Declares (first_value (with_name d.env (declared_name n) (LocalNamed (length d.locals) t)) from (length d.locals) t r) (λ ss. Fine (record { env = with_name d.env (declared_name n) (LocalNamed (length d.locals) t); locals = d.locals ++ t ∷ [] }, ss))
      (first_value_counts (with_name d.env (declared_name n) (LocalNamed (length d.locals) t)) from (length d.locals) t r within) (λ ss h. (within, h)))))

  locals_declare : (es : Decls) (d : Declared) → NamesAre us d.env → Holds Declares (locals_of es d)
  locals_declare NoDecls d ns = (ns, tt)
  locals_declare (MoreDecls e es) d ns =
      holds_then Declares Declares (local e d) _ (local_declares e d ns)
      (λ a h. holds_then Declares Declares (locals_of es a.0) _ (locals_declare es a.0 h.0)
      (λ b k. (k.0, joined_count a.1 b.1 h.1 k.1)))

  return_counts : (env : Environment) (from : ℕ) (t : CType) (e : Expr) → NamesAre us env → Holds S (value_in env e >>= (λ v. assigned (start_of e) t v >>= (λ w. Fine (typed.Return from (OneValue w)))))
  return_counts env from t e ns =
      holds_then V S (value_in env e) _ (value_in_counts env e ns) (λ v h. holds_then V S (assigned (start_of e) t v) _ (assigned_counts x us serves (start_of e) t v h) (λ w k. k))

  returned_counts : (env : Environment) (from : ℕ) (t : CType) (e : MaybeExpr) → NamesAre us env → Holds S (returned env from t e)
  returned_counts env from t NoExpr ns = holds_after S (keep from 12 (is_void t)) (Fine (typed.Return from NoValue)) tt
  returned_counts env from Void (OneExpr e) ns = tt
  returned_counts env from (Integer k) (OneExpr e) ns = return_counts env from (Integer k) e ns
  returned_counts env from (PointerTo t) (OneExpr e) ns = return_counts env from (PointerTo t) e ns
  returned_counts env from (ArrayOf n t) (OneExpr e) ns = return_counts env from (ArrayOf n t) e ns
  returned_counts env from (StructOf n) (OneExpr e) ns = return_counts env from (StructOf n) e ns
  returned_counts env from (UndefinedStruct tag) (OneExpr e) ns = return_counts env from (UndefinedStruct tag) e ns
  returned_counts env from (FunctionOf r ts) (OneExpr e) ns = return_counts env from (FunctionOf r ts) e ns

  evaluated_counts : (v : MaybeValue) → M v → S (evaluated v)
  evaluated_counts NoValue h = tt
  evaluated_counts (OneValue v) h = h

  mutual
    statement_counts : (s : Stmt) (p : Surroundings) (d : Declared) → NamesAre us d.env → Holds Makes (statement s p d)
    statement_counts (Block from es) p d ns = holds_then MakesAll Makes (entries es p (inside d)) _ (entries_count es p (inside d) ns) (λ a h. h)
    statement_counts (Expression from e) p d ns = holds_then M Makes (maybe_in d.env e) _ (maybe_in_counts d.env e ns) (λ v h. evaluated_counts v h)
    statement_counts (If from e s) p d ns =
        holds_then V Makes (condition_in d.env e) _ (condition_counts d.env e ns)
        (λ c h. holds_then Makes Makes (statement s p d) _ (statement_counts s p d ns) (λ a k. (h, k)))
    statement_counts (IfElse from e s z) p d ns =
        holds_then V Makes (condition_in d.env e) _ (condition_counts d.env e ns)
        (λ c h. holds_then Makes Makes (statement s p d) _ (statement_counts s p d ns)
        (λ a k. holds_then Makes Makes (statement z p (outside d.env a.0)) _ (statement_counts z p (outside d.env a.0) ns) (λ b j. (h, k, j))))
    statement_counts (While from e s) p d ns =
        holds_then V Makes (condition_in d.env e) _ (condition_counts d.env e ns)
        (λ c h. holds_then Makes Makes (statement s (looping p) d) _ (statement_counts s (looping p) d ns) (λ a k. (h, k)))
    statement_counts (Do from s e) p d ns =
        holds_then Makes Makes (statement s (looping p) d) _ (statement_counts s (looping p) d ns)
        (λ a h. holds_then V Makes (condition_in d.env e) _ (condition_counts d.env e ns) (λ c k. (h, k)))
    statement_counts (For from f e l s) p d ns =
        holds_then Declares Makes (first f p (inside d)) _ (first_counts f p (inside d) ns)
        (λ a h. holds_then M Makes (maybe_condition a.0.env e) _ (maybe_condition_counts a.0.env e h.0)
        (λ c k. holds_then M Makes (maybe_in a.0.env l) _ (maybe_in_counts a.0.env l h.0)
        (λ z j. holds_then Makes Makes (statement s (looping p) a.0) _ (statement_counts s (looping p) a.0 h.0) (λ b i. (h.1, k, j, i)))))
    statement_counts (Break from) p d ns = holds_after Makes (keep from 11 p.in_loop) (Fine (d.locals, typed.Break)) tt
    statement_counts (Continue from) p d ns = holds_after Makes (keep from 11 p.in_loop) (Fine (d.locals, typed.Continue)) tt
    statement_counts (Return from e) p d ns = holds_then S Makes (returned d.env from p.result e) _ (returned_counts d.env from p.result e ns) (λ s h. h)

    entries_count : (es : Entries) (p : Surroundings) (d : Declared) → NamesAre us d.env → Holds MakesAll (entries es p d)
    entries_count NoEntries p d ns = tt
    entries_count (MoreEntries e es) p d ns =
        holds_then Declares MakesAll (entry e p d) _ (entry_counts e p d ns)
        (λ a h. holds_then MakesAll MakesAll (entries es p a.0) _ (entries_count es p a.0 h.0) (λ b k. joined_count a.1 b.1 h.1 k))

    entry_counts : (e : Entry) (p : Surroundings) (d : Declared) → NamesAre us d.env → Holds Declares (entry e p d)
    entry_counts (LocalEntry ds) p d ns = locals_declare ds d ns
    entry_counts (StmtEntry s) p d ns = holds_then Makes Declares (statement s p d) _ (statement_counts s p d ns) (λ a h. (ns, (h, tt)))

    first_counts : (f : First) (p : Surroundings) (d : Declared) → NamesAre us d.env → Holds Declares (first f p d)
    first_counts NoFirst p d ns = (ns, tt)
    first_counts (LocalFirst ds) p d ns = locals_declare ds d ns
    first_counts (ExprFirst e) p d ns = holds_then V Declares (value_in d.env e) _ (value_in_counts d.env e ns) (λ v h. (ns, (h, tt)))

  block_counts : (s : Stmt) (p : Surroundings) (d : Declared) → NamesAre us d.env → Holds Makes (block_of s p d)
  block_counts (Block from es) p d ns = holds_then MakesAll Makes (entries es p d) _ (entries_count es p d ns) (λ a h. h)
  block_counts s p d ns = statement_counts s p d ns

  block_body_counts : (env : Environment) (t : CType) (ps : Parts) (s : Stmt) → NamesAre us env → Holds (λ b. S b.statements) (block_body env t ps s)
  block_body_counts env t ps s ns =
      holds_then (NamesAre us) (λ b. S b.statements) (parameters (nearest ps) (inner env) 0 (params_of t)) _ (parameters_names us (nearest ps) (inner env) 0 (params_of t) ns)
      (λ within h. holds_then (λ a. Makes a.0) (λ b. S b.statements) (heard (block_of s (record { result = result_of t; in_loop = false }) (record { env = within; locals = listed (params_of t) }))) _
      (holds_heard Makes (block_of s (record { result = result_of t; in_loop = false }) (record { env = within; locals = listed (params_of t) })) (block_counts s (record { result = result_of t; in_loop = false }) (record { env = within; locals = listed (params_of t) }) h)) (λ a k. k))

  pub body_counts : (env : Environment) (t : CType) (ps : Parts) (s : Stmt) → NamesAre us env → Holds (λ b. S b.statements) (body_of env t ps s)
  body_counts env t ps s ns =
      holds_on (λ b. S b.statements) (heard (parameter_types (nearest ps) (inner env) 0)) _ (λ vs. holds_then (λ b. S b.statements) (λ b. S b.statements) (block_body env t ps s) _ (block_body_counts env t ps s ns) (λ b h. h))

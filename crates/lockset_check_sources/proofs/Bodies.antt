-- In a typed body each call by name is plain, and `break` and `continue` stand in loops.
use Rattle.std.proofs.Common.{◌≡◌, ℕ, ◌+◌, ◌≤◌, Bool, true, false, cond, List, [], ◌∷◌, ◌++◌, length, Option, Some, None, refl}
use Rattle.std.specs.Option.{option_or}
use Rattle.c_syntax.specs.Syntax.{Expr, MaybeExpr, Decl, Decls, Parts, Rest, Stmt, Entries, Entry, First, NoExpr, OneExpr, Declare, NoDecls, MoreDecls, Plain, Braces, NoRest, Initial, Body, Members, Block, Expression, If, IfElse, While, Do, For, Break, Continue, Return, NoEntries, MoreEntries, LocalEntry, StmtEntry, NoFirst, LocalFirst, ExprFirst}
use Rattle.c_types_model.specs.Types.{CType, CTypes, Void, Integer, PointerTo, ArrayOf, StructOf, UndefinedStruct, FunctionOf, NoTypes, MoreTypes}
use Rattle.c_scopes.specs.Scopes.{Scope, meaning_in, meaning_of, same_name}
use Rattle.c_scopes.specs.Scopes as scopes
use Rattle.c_types_rules.specs.Checked.{Fine, heard, keep, ◌>>=◌}
use Rattle.c_types_rules.specs.TypeTests.{is_scalar, is_void}
use Rattle.c_types_rules.specs.Environment.{Environment, Meaning, FunctionNamed, LocalNamed, declarable, extents, inner, with_name}
use Rattle.c_types_rules.specs.Expressions.{complete, declared_name, declared_type, expression, with_parameter, start_of, parameter_types}
use Rattle.c_types_rules.specs.Operators.{assigned, scalar}
use Rattle.c_types_rules.specs.TypedTree.{Value, MaybeValue, NoValue, OneValue, Statement, Statements, joined, value_of}
use Rattle.c_types_rules.specs.TypedTree as typed
use Rattle.c_types_rules.specs.Statements.{Declared, Surroundings, condition_in, entries, entry, evaluated, first, first_value, inside, local, locals_of, looping, maybe_condition, maybe_in, outside, returned, statement, value_in}
use Rattle.c_types_rules.specs.Sources.{block_of, body_of, listed, nearest, parameter, parameters, params_of, result_of, block_body}
use Rattle.c_builtins.specs.Table.{first_source_function}
use Rattle.lockset_check_threads.specs.Typed.{InMaybe, InStatement, InStatements, IsPlainCall}
use Rattle.lockset_check_sources.proofs.Found.{Holds, holds_heard, holds_then, holds_on, holds_after, holds_kept}
use Rattle.lockset_check_sources.proofs.Expressions.{PlainValue, PlainTyped, NamesAre, assigned_plain, expression_plain, value_plain}

-- ---- names

pub or_none : {A : Type 0} (o : Option A) → option_or o None ≡ o
or_none (Some a) = refl
or_none None = refl

-- a local of this name hides nothing but functions of this name
local_names : (env : Environment) (name : List ℕ) (place : ℕ) (t : CType) → NamesAre env → NamesAre (with_name env name (LocalNamed place t))
local_names env name place t ns = by env.scopes ns
  where
    by : (ss : List (Scope Meaning)) → ((n : List ℕ) (number : ℕ) (u : CType) → meaning_of n ss ≡ Some (FunctionNamed number u) → first_source_function ≤ number) → (n : List ℕ) (number : ℕ) (u : CType) → meaning_of n (scopes.declared name (LocalNamed place t) ss) ≡ Some (FunctionNamed number u) → first_source_function ≤ number
    by [] k n number u e = k n number u e
    by (scope ∷ outer) k n number u e = at (same_name n name) e
      where
        at : (b : Bool) → option_or (cond b (Some (LocalNamed place t)) (meaning_in n scope)) (meaning_of n outer) ≡ Some (FunctionNamed number u) → first_source_function ≤ number
        at true e = absurd cc
        at false e = k n number u e

parameter_names : (env : Environment) (from place : ℕ) (n : Option (List ℕ)) (t : CType) → NamesAre env → Holds (NamesAre) (with_parameter env from place n t)
parameter_names env from place None t ns = ns
parameter_names env from place (Some name) t ns = holds_after (NamesAre) (declarable env from name) _ (local_names env name place t ns)

parameters_names : (ds : Decls) (env : Environment) (place : ℕ) (ts : CTypes) → NamesAre env → Holds (NamesAre) (parameters ds env place ts)
parameters_names NoDecls env place ts ns = ns
parameters_names (MoreDecls d ds) env place NoTypes ns = ns
parameters_names (MoreDecls d ds) env place (MoreTypes t ts) ns =
    holds_then (NamesAre) (NamesAre) (parameter d env place t) _ (one d) (λ within k. parameters_names ds within (place + 1) ts k)
  where
    one : (d : Decl) → Holds (NamesAre) (parameter d env place t)
    one (Declare from an b ps n r) = holds_after (NamesAre) (keep from 21 _) _ (parameter_names env from place n t ns)

abbrev pub V : Value → Type 0
V v = PlainValue v

abbrev pub M : MaybeValue → Type 0
M v = InMaybe IsPlainCall v

value_in_plain : (env : Environment) (e : Expr) → NamesAre env → Holds V (value_in env e)
value_in_plain env e ns = holds_then (PlainTyped) V (expression e env) _ (expression_plain e env ns) (λ a h. value_plain a h)

maybe_in_plain : (env : Environment) (e : MaybeExpr) → NamesAre env → Holds M (maybe_in env e)
maybe_in_plain env NoExpr ns = tt
maybe_in_plain env (OneExpr e) ns = holds_then V M (value_in env e) _ (value_in_plain env e ns) (λ v h. h)

condition_plain : (env : Environment) (e : Expr) → NamesAre env → Holds V (condition_in env e)
condition_plain env e ns = holds_then V V (value_in env e) _ (value_in_plain env e ns) (λ v h. holds_after V (scalar (start_of e) v) _ h)

maybe_condition_plain : (env : Environment) (e : MaybeExpr) → NamesAre env → Holds M (maybe_condition env e)
maybe_condition_plain env NoExpr ns = tt
maybe_condition_plain env (OneExpr e) ns = holds_then V M (condition_in env e) _ (condition_plain env e ns) (λ v h. h)

-- ---- statements

abbrev pub S : Bool → Statement → Type 0
S l s = InStatement IsPlainCall l s

abbrev pub All : Bool → Statements → Type 0
All l ss = InStatements IsPlainCall l ss

module _ (l : Bool) where
  joined_plain : (a b : Statements) → All l a → All l b → All l (joined a b)
  joined_plain typed.NoStatements b h k = k
  joined_plain (typed.MoreStatements s a) b h k = (h.0, joined_plain a b h.1 k)

  first_value_plain : (env : Environment) (from place : ℕ) (t : CType) (r : Rest) → NamesAre env → Holds (All l) (first_value env from place t r)
  first_value_plain env from place t NoRest ns = tt
  first_value_plain env from place t (Initial (Plain e)) ns =
      holds_after (All l) (keep from 17 (is_scalar t)) (value_in env e >>= (λ v. assigned (start_of e) t v >>= (λ w. Fine (typed.MoreStatements (typed.Initialise place t w) typed.NoStatements)))) (holds_then V (All l) (value_in env e) _ (value_in_plain env e ns)
      (λ v h. holds_then V (All l) (assigned (start_of e) t v) _ (assigned_plain (start_of e) t v h) (λ w k. (k, tt))))
  first_value_plain env from place t (Initial (Braces at vs)) ns = tt
  first_value_plain env from place t (Body s) ns = tt
  first_value_plain env from place t (Members ds) ns = tt

  -- what is declared with statements
  abbrev pub Declares : Declared × Statements → Type 0
  Declares a = NamesAre a.0.env × All l a.1

  abbrev pub Makes : List CType × Statement → Type 0
  Makes a = S l a.1

  abbrev pub MakesAll : List CType × Statements → Type 0
  MakesAll a = All l a.1

  local_declares : (e : Decl) (d : Declared) → NamesAre d.env → Holds Declares (local e d)
  local_declares (Declare from an b ps n r) d ns =
      holds_on Declares (declared_type (Declare from an b ps n r) d.env) _ (λ t.
      holds_after Declares (complete (extents d.env) from t) _ (holds_after Declares (declarable d.env from (declared_name n)) _
      (let within = local_names d.env (declared_name n) (length d.locals) t ns in
      holds_then (All l) Declares (first_value (with_name d.env (declared_name n) (LocalNamed (length d.locals) t)) from (length d.locals) t r) (λ ss. Fine (record { env = with_name d.env (declared_name n) (LocalNamed (length d.locals) t); locals = d.locals ++ t ∷ [] }, ss))
      (first_value_plain (with_name d.env (declared_name n) (LocalNamed (length d.locals) t)) from (length d.locals) t r within) (λ ss h. (within, h)))))

  locals_declare : (es : Decls) (d : Declared) → NamesAre d.env → Holds Declares (locals_of es d)
  locals_declare NoDecls d ns = (ns, tt)
  locals_declare (MoreDecls e es) d ns =
      holds_then Declares Declares (local e d) _ (local_declares e d ns)
      (λ a h. holds_then Declares Declares (locals_of es a.0) _ (locals_declare es a.0 h.0)
      (λ b k. (k.0, joined_plain a.1 b.1 h.1 k.1)))

  return_plain : (env : Environment) (from : ℕ) (t : CType) (e : Expr) → NamesAre env → Holds (S l) (value_in env e >>= (λ v. assigned (start_of e) t v >>= (λ w. Fine (typed.Return from (OneValue w)))))
  return_plain env from t e ns =
      holds_then V (S l) (value_in env e) _ (value_in_plain env e ns) (λ v h. holds_then V (S l) (assigned (start_of e) t v) _ (assigned_plain (start_of e) t v h) (λ w k. k))

  returned_plain : (env : Environment) (from : ℕ) (t : CType) (e : MaybeExpr) → NamesAre env → Holds (S l) (returned env from t e)
  returned_plain env from t NoExpr ns = holds_after (S l) (keep from 12 (is_void t)) (Fine (typed.Return from NoValue)) tt
  returned_plain env from Void (OneExpr e) ns = tt
  returned_plain env from (Integer k) (OneExpr e) ns = return_plain env from (Integer k) e ns
  returned_plain env from (PointerTo t) (OneExpr e) ns = return_plain env from (PointerTo t) e ns
  returned_plain env from (ArrayOf n t) (OneExpr e) ns = return_plain env from (ArrayOf n t) e ns
  returned_plain env from (StructOf n) (OneExpr e) ns = return_plain env from (StructOf n) e ns
  returned_plain env from (UndefinedStruct tag) (OneExpr e) ns = return_plain env from (UndefinedStruct tag) e ns
  returned_plain env from (FunctionOf r ts) (OneExpr e) ns = return_plain env from (FunctionOf r ts) e ns

  evaluated_plain : (v : MaybeValue) → M v → S l (evaluated v)
  evaluated_plain NoValue h = tt
  evaluated_plain (OneValue v) h = h

mutual
  statement_plain : (s : Stmt) (p : Surroundings) (d : Declared) → NamesAre d.env → Holds (Makes p.in_loop) (statement s p d)
  statement_plain (Block from es) p d ns = holds_then (MakesAll p.in_loop) (Makes p.in_loop) (entries es p (inside d)) _ (entries_plain es p (inside d) ns) (λ a h. h)
  statement_plain (Expression from e) p d ns = holds_then M (Makes p.in_loop) (maybe_in d.env e) _ (maybe_in_plain d.env e ns) (λ v h. evaluated_plain p.in_loop v h)
  statement_plain (If from e s) p d ns =
      holds_then V (Makes p.in_loop) (condition_in d.env e) _ (condition_plain d.env e ns)
      (λ c h. holds_then (Makes p.in_loop) (Makes p.in_loop) (statement s p d) _ (statement_plain s p d ns) (λ a k. (h, k)))
  statement_plain (IfElse from e s z) p d ns =
      holds_then V (Makes p.in_loop) (condition_in d.env e) _ (condition_plain d.env e ns)
      (λ c h. holds_then (Makes p.in_loop) (Makes p.in_loop) (statement s p d) _ (statement_plain s p d ns)
      (λ a k. holds_then (Makes p.in_loop) (Makes p.in_loop) (statement z p (outside d.env a.0)) _ (statement_plain z p (outside d.env a.0) ns) (λ b j. (h, k, j))))
  statement_plain (While from e s) p d ns =
      holds_then V (Makes p.in_loop) (condition_in d.env e) _ (condition_plain d.env e ns)
      (λ c h. holds_then (Makes true) (Makes p.in_loop) (statement s (looping p) d) _ (statement_plain s (looping p) d ns) (λ a k. (h, k)))
  statement_plain (Do from s e) p d ns =
      holds_then (Makes true) (Makes p.in_loop) (statement s (looping p) d) _ (statement_plain s (looping p) d ns)
      (λ a h. holds_then V (Makes p.in_loop) (condition_in d.env e) _ (condition_plain d.env e ns) (λ c k. (h, k)))
  statement_plain (For from f e l s) p d ns =
      holds_then (Declares p.in_loop) (Makes p.in_loop) (first f p (inside d)) _ (first_plain f p (inside d) ns)
      (λ a h. holds_then M (Makes p.in_loop) (maybe_condition a.0.env e) _ (maybe_condition_plain a.0.env e h.0)
      (λ c k. holds_then M (Makes p.in_loop) (maybe_in a.0.env l) _ (maybe_in_plain a.0.env l h.0)
      (λ z j. holds_then (Makes true) (Makes p.in_loop) (statement s (looping p) a.0) _ (statement_plain s (looping p) a.0 h.0) (λ b i. (h.1, k, j, i)))))
  statement_plain (Break from) p d ns = holds_kept (Makes p.in_loop) from 11 p.in_loop (Fine (d.locals, typed.Break)) (λ is. is)
  statement_plain (Continue from) p d ns = holds_kept (Makes p.in_loop) from 11 p.in_loop (Fine (d.locals, typed.Continue)) (λ is. is)
  statement_plain (Return from e) p d ns = holds_then (S p.in_loop) (Makes p.in_loop) (returned d.env from p.result e) _ (returned_plain p.in_loop d.env from p.result e ns) (λ s h. h)

  entries_plain : (es : Entries) (p : Surroundings) (d : Declared) → NamesAre d.env → Holds (MakesAll p.in_loop) (entries es p d)
  entries_plain NoEntries p d ns = tt
  entries_plain (MoreEntries e es) p d ns =
      holds_then (Declares p.in_loop) (MakesAll p.in_loop) (entry e p d) _ (entry_plain e p d ns)
      (λ a h. holds_then (MakesAll p.in_loop) (MakesAll p.in_loop) (entries es p a.0) _ (entries_plain es p a.0 h.0) (λ b k. joined_plain p.in_loop a.1 b.1 h.1 k))

  entry_plain : (e : Entry) (p : Surroundings) (d : Declared) → NamesAre d.env → Holds (Declares p.in_loop) (entry e p d)
  entry_plain (LocalEntry ds) p d ns = locals_declare p.in_loop ds d ns
  entry_plain (StmtEntry s) p d ns = holds_then (Makes p.in_loop) (Declares p.in_loop) (statement s p d) _ (statement_plain s p d ns) (λ a h. (ns, (h, tt)))

  first_plain : (f : First) (p : Surroundings) (d : Declared) → NamesAre d.env → Holds (Declares p.in_loop) (first f p d)
  first_plain NoFirst p d ns = (ns, tt)
  first_plain (LocalFirst ds) p d ns = locals_declare p.in_loop ds d ns
  first_plain (ExprFirst e) p d ns = holds_then V (Declares p.in_loop) (value_in d.env e) _ (value_in_plain d.env e ns) (λ v h. (ns, (h, tt)))

block_plain : (s : Stmt) (p : Surroundings) (d : Declared) → NamesAre d.env → Holds (Makes p.in_loop) (block_of s p d)
block_plain (Block from es) p d ns = holds_then (MakesAll p.in_loop) (Makes p.in_loop) (entries es p d) _ (entries_plain es p d ns) (λ a h. h)
block_plain s p d ns = statement_plain s p d ns

block_body_plain : (env : Environment) (t : CType) (ps : Parts) (s : Stmt) → NamesAre env → Holds (λ b. S false b.statements) (block_body env t ps s)
block_body_plain env t ps s ns =
    holds_then (NamesAre) (λ b. S false b.statements) (parameters (nearest ps) (inner env) 0 (params_of t)) _ (parameters_names (nearest ps) (inner env) 0 (params_of t) ns)
    (λ within h. holds_then (λ a. Makes false a.0) (λ b. S false b.statements) (heard (block_of s (record { result = result_of t; in_loop = false }) (record { env = within; locals = listed (params_of t) }))) _
    (holds_heard (Makes false) (block_of s (record { result = result_of t; in_loop = false }) (record { env = within; locals = listed (params_of t) })) (block_plain s (record { result = result_of t; in_loop = false }) (record { env = within; locals = listed (params_of t) }) h)) (λ a k. k))

pub body_plain : (env : Environment) (t : CType) (ps : Parts) (s : Stmt) → NamesAre env → Holds (λ b. S false b.statements) (body_of env t ps s)
body_plain env t ps s ns =
    holds_on (λ b. S false b.statements) (heard (parameter_types (nearest ps) (inner env) 0)) _ (λ vs. holds_then (λ b. S false b.statements) (λ b. S false b.statements) (block_body env t ps s) _ (block_body_plain env t ps s ns) (λ b h. h))

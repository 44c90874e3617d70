-- Statements and the locals of functions (C11 6.8, 6.7.9).
use Rattle.std.specs.Prelude.{ℕ, Bool, true, List, [], ◌∷◌, ◌++◌, length}
use Rattle.c_syntax.specs.Syntax.{Expr, MaybeExpr, Decl, Decls, Rest, Stmt, Entries, Entry, First, NoExpr, OneExpr, Declare, NoDecls, MoreDecls, Plain, Braces, NoRest, Initial, Body, Members, Block, Expression, If, IfElse, While, Do, For, Break, Continue, Return, NoEntries, MoreEntries, LocalEntry, StmtEntry, NoFirst, LocalFirst, ExprFirst}
use Rattle.c_types_model.specs.Types.{CType, Void}
use Rattle.c_types_rules.specs.Checked.{Checked, Fine, Broken, keep, ◌>>=◌, ◌>>◌}
use Rattle.c_types_rules.specs.TypeTests.{is_scalar, is_void}
use Rattle.c_types_rules.specs.Operators.{assigned, scalar}
use Rattle.c_types_rules.specs.TypedTree.{Value, MaybeValue, NoValue, OneValue, Statement, Statements, NoStatements, MoreStatements, joined, value_of}
use Rattle.c_types_rules.specs.TypedTree as typed
use Rattle.c_types_rules.specs.Environment.{Environment, LocalNamed, extents, inner, with_name, declarable}
use Rattle.c_types_rules.specs.Expressions.{start_of, expression, declared_type, declared_name, complete}

-- the offset of a statement's first token
abbrev pub start_of_stmt : Stmt → ℕ
start_of_stmt (Block from es) = from
start_of_stmt (Expression from x) = from
start_of_stmt (If from x s) = from
start_of_stmt (IfElse from x s z) = from
start_of_stmt (While from x s) = from
start_of_stmt (Do from s x) = from
start_of_stmt (For from f x y s) = from
start_of_stmt (Break from) = from
start_of_stmt (Continue from) = from
start_of_stmt (Return from x) = from

-- where a statement stands: in a function that gives this, and in a loop or not
pub record Surroundings : Type 0 where
  pub result : CType
  pub in_loop : Bool

abbrev pub looping : Surroundings → Surroundings
looping p = record p { in_loop = true }

-- what is declared, and the types of the function's parameters and locals so far
pub record Declared : Type 0 where
  pub env : Environment
  pub locals : List CType

-- the value of an expression
abbrev pub value_in : Environment → Expr → Checked Value
value_in env x = do
  a ← expression x env
  Fine (value_of a)

abbrev pub maybe_in : Environment → MaybeExpr → Checked MaybeValue
maybe_in env NoExpr = Fine NoValue
maybe_in env (OneExpr x) = do
  v ← value_in env x
  Fine (OneValue v)

-- what decides between two ways
abbrev pub condition_in : Environment → Expr → Checked Value
condition_in env x = do
  v ← value_in env x
  scalar (start_of x) v
  Fine v

-- a `for` needs no condition
abbrev pub maybe_condition : Environment → MaybeExpr → Checked MaybeValue
maybe_condition env NoExpr = Fine NoValue
maybe_condition env (OneExpr x) = do
  v ← condition_in env x
  Fine (OneValue v)

-- ---- locals

-- the first value of a local; a local without one is left as its frame was made
abbrev pub first_value : Environment → (from place : ℕ) → CType → Rest → Checked Statements
first_value env from place t NoRest = Fine NoStatements
first_value env from place t (Initial (Plain x)) = do
  keep from 17 (is_scalar t)
  v ← value_in env x
  w ← assigned (start_of x) t v
  Fine (MoreStatements (typed.Initialise place t w) NoStatements)
first_value env from place t (Initial (Braces at vs)) = Broken at 17
first_value env from place t (Body s) = Broken from 21
first_value env from place t (Members ds) = Broken from 3

-- a local, whose name is declared before its value (C11 6.2.1, 7)
abbrev pub local : Decl → Declared → Checked (Declared × Statements)
local (Declare from an b ps n r) d = do
  t ← declared_type (Declare from an b ps n r) d.env
  complete (extents d.env) from t
  declarable d.env from (declared_name n)
  let env = with_name d.env (declared_name n) (LocalNamed (length d.locals) t)
  first ← first_value env from (length d.locals) t r
  Fine (record { env = env; locals = d.locals ++ t ∷ [] }, first)

abbrev pub locals_of : Decls → Declared → Checked (Declared × Statements)
locals_of NoDecls d = Fine (d, NoStatements)
locals_of (MoreDecls x xs) d = do
  a ← local x d
  b ← locals_of xs a.0
  Fine (b.0, joined a.1 b.1)

-- ---- statements

-- C11 6.8.6.4
abbrev pub returned : Environment → (from : ℕ) → CType → MaybeExpr → Checked Statement
returned env from t NoExpr = keep from 12 (is_void t) >> Fine (typed.Return from NoValue)
returned env from Void (OneExpr x) = Broken from 12
returned env from t (OneExpr x) = do
  v ← value_in env x
  w ← assigned (start_of x) t v
  Fine (typed.Return from (OneValue w))

abbrev pub evaluated : MaybeValue → Statement
evaluated NoValue = typed.Block NoStatements
evaluated (OneValue v) = typed.Evaluate v

-- names of an inner scope end with it; the locals stay
abbrev pub outside : Environment → List CType → Declared
outside env locals = record { env = env; locals = locals }

abbrev pub inside : Declared → Declared
inside d = record d { env = inner d.env }

abbrev mutual
  -- a statement, with the types of the locals up to its end
  pub statement : Stmt → Surroundings → Declared → Checked (List CType × Statement)
  statement (Block from es) p d = do
    a ← entries es p (inside d)
    Fine (a.0, typed.Block a.1)
  statement (Expression from x) p d = do
    v ← maybe_in d.env x
    Fine (d.locals, evaluated v)
  statement (If from x s) p d = do
    c ← condition_in d.env x
    a ← statement s p d
    Fine (a.0, typed.If c a.1)
  statement (IfElse from x s z) p d = do
    c ← condition_in d.env x
    a ← statement s p d
    b ← statement z p (outside d.env a.0)
    Fine (b.0, typed.IfElse c a.1 b.1)
  statement (While from x s) p d = do
    c ← condition_in d.env x
    a ← statement s (looping p) d
    Fine (a.0, typed.While from c a.1)
  statement (Do from s x) p d = do
    a ← statement s (looping p) d
    c ← condition_in d.env x
    Fine (a.0, typed.Do from a.1 c)
  statement (For from f x y s) p d = do
    a ← first f p (inside d)
    c ← maybe_condition a.0.env x
    z ← maybe_in a.0.env y
    b ← statement s (looping p) a.0
    Fine (b.0, typed.For from a.1 c z b.1)
  statement (Break from) p d = keep from 11 p.in_loop >> Fine (d.locals, typed.Break)
  statement (Continue from) p d = keep from 11 p.in_loop >> Fine (d.locals, typed.Continue)
  statement (Return from x) p d = do
    s ← returned d.env from p.result x
    Fine (d.locals, s)

  -- what stands in a block, with the types of the locals up to its end
  pub entries : Entries → Surroundings → Declared → Checked (List CType × Statements)
  entries NoEntries p d = Fine (d.locals, NoStatements)
  entries (MoreEntries e es) p d = do
    a ← entry e p d
    b ← entries es p a.0
    Fine (b.0, joined a.1 b.1)

  pub entry : Entry → Surroundings → Declared → Checked (Declared × Statements)
  entry (LocalEntry ds) p d = locals_of ds d
  entry (StmtEntry s) p d = do
    a ← statement s p d
    Fine (outside d.env a.0, MoreStatements a.1 NoStatements)

  -- the first part of a `for`, whose names last as long as the loop
  pub first : First → Surroundings → Declared → Checked (Declared × Statements)
  first NoFirst p d = Fine (d, NoStatements)
  first (LocalFirst ds) p d = locals_of ds d
  first (ExprFirst x) p d = do
    v ← value_in d.env x
    Fine (d, MoreStatements (typed.Evaluate v) NoStatements)

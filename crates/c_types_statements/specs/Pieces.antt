-- What parts of statements are.
use Rattle.std.specs.Prelude.{ℕ, Bool, false, List, [], Option}
use Rattle.c_syntax.specs.Syntax.{Expr, MaybeExpr, Decl, Decls, First, Stmt, Declare}
use Rattle.c_types_model.specs.Types.{CType}
use Rattle.c_types_rules.specs.Checked.{heard, Checked, Fine, keep, ◌>>=◌, ◌>>◌}
use Rattle.c_types_rules.specs.Operators.{assigned}
use Rattle.c_types_rules.specs.TypedTree.{Value, Statement}
use Rattle.c_types_rules.specs.TypedTree as typed
use Rattle.c_types_rules.specs.Environment.{Environment, LocalNamed, extents, with_name, declarable}
use Rattle.c_types_rules.specs.Expressions.{complete, declared_name, declared_type, start_of}
use Rattle.c_types_rules.specs.Sources.{block_of, listed, parameters, params_of, result_of}
use Rattle.c_types_rules.specs.Statements.{Declared, Surroundings, evaluated, first, looping, maybe_condition, maybe_in, start_of_stmt, statement, value_in}

-- the value of an expression, converted as if by assignment to an object of a type
abbrev pub converted_in : Environment → CType → Expr → Checked Value
converted_in env t x = do
  v ← value_in env x
  assigned (start_of x) t v

-- an expression whose value isn't used, where there is one
abbrev pub evaluated_in : Environment → MaybeExpr → Checked Statement
evaluated_in env x = do
  v ← maybe_in env x
  Fine (evaluated v)

-- what stands in loops alone
abbrev pub in_loops : {A : Type 0} → (from : ℕ) → (in_loop : Bool) → A → Checked A
in_loops from in_loop x = keep from 11 in_loop >> Fine x

-- the type of a local
abbrev pub local_type : Environment → Decl → Checked CType
local_type env (Declare from an b ps n r) = do
  t ← declared_type (Declare from an b ps n r) env
  complete (extents env) from t
  Fine t

-- where a local's first value stands
abbrev pub local_scope : Environment → (from : ℕ) → Option (List ℕ) → (place : ℕ) → CType →
    Checked Environment
local_scope env from n place t = do
  declarable env from (declared_name n)
  Fine (with_name env (declared_name n) (LocalNamed place t))

-- a `for` at an offset, in the scope where its names stand
abbrev pub for_here : (from : ℕ) → First → (x y : MaybeExpr) → Stmt → Surroundings → Declared →
    Checked (List CType × Statement)
for_here from f x y s p d = do
  a ← first f p d
  c ← maybe_condition a.0.env x
  z ← maybe_in a.0.env y
  b ← statement s (looping p) a.0
  Fine (b.0, typed.For from a.1 c z b.1)

-- what a function of a type does, where these parameters belong into the innermost scope
abbrev pub body_here : Environment → CType → Decls → Stmt → Checked typed.Body
body_here env t ds s = do
  within ← parameters ds env 0 (params_of t)
  a ← heard (block_of s (record { result = result_of t; in_loop = false })
      (record { env = within; locals = listed (params_of t) }))
  Fine (record {
    from = start_of_stmt s;
    locals = a.0.0;
    statements = a.0.1;
    in_params = [];
    unevaluated = a.1;
  })

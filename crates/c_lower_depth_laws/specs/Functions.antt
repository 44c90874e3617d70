-- The depths of the evaluation stack in the functions of a source, by its syntax.
use Rattle.std.specs.Prelude.{ℕ, suc, ◌+◌, max, Bool, true, false, if◌then◌else◌, nat_lt, List, [], ◌∷◌, Option, Some, None}
use Rattle.std.specs.Option.{option_or}
use Rattle.source_limits.specs.Limits.{most_values}
use Rattle.c_syntax.specs.Syntax.{Decl, Decls, Parts, Rest, Stmt, Declare, NoDecls, MoreDecls, NoParts, Pointer, Array, Params, Body, Members}
use Rattle.c_scopes.specs.Scopes.{same_name}
use Rattle.c_builtins.specs.Table.{first_source_function}
use Rattle.c_types_rules.specs.Expressions.{declared_name}
use Rattle.c_types_rules.specs.Sources.{nearest}
use Rattle.c_lower_depth_laws.specs.Expressions.{with_param}
use Rattle.c_lower_depth_laws.specs.Bodies.{stmt_depth}

-- a function, and how deep its body is, where it has one
pub record Row : Type 0 where
  pub name : List ℕ
  pub depth : Option ℕ

-- whether a declarator is a function's: the part that is nearest to the name has parameters
abbrev pub is_function : Parts → Bool
is_function NoParts = false
is_function (Pointer from ps) = is_function ps
is_function (Array from x ps) = is_function ps
is_function (Params from ds NoParts) = true
is_function (Params from ds ps) = is_function ps

-- the objects after parameters
abbrev pub with_params : Decls → (objects : List (List ℕ)) → List (List ℕ)
with_params NoDecls objects = objects
with_params (MoreDecls d ds) objects = with_params ds (with_param d objects)

-- of a function's body: 1 at least, since a return pushes a value
abbrev pub function_depth : Parts → Stmt → (objects : List (List ℕ)) → ℕ
function_depth ps s objects = max 1 (stmt_depth s (with_params (nearest ps) objects))

-- of a body, where there is one
abbrev pub depth_in : Parts → Rest → (objects : List (List ℕ)) → Option ℕ
depth_in ps (Body s) objects = Some (function_depth ps s objects)
depth_in ps r objects = None

-- with one more function at the end, or with the body of one that is there
abbrev pub with_row : List ℕ → Option ℕ → List Row → List Row
with_row name o [] = record { name = name; depth = o } ∷ []
with_row name o (f ∷ fs) = if same_name name f.name
    then record f { depth = option_or f.depth o } ∷ fs else f ∷ with_row name o fs

-- the functions after a declaration at file scope
abbrev pub rows_after : Decl → (objects : List (List ℕ)) → List Row → List Row
rows_after (Declare from an b ps n (Members ds)) objects fs = fs
rows_after (Declare from an b ps n r) objects fs =
    if is_function ps then with_row (declared_name n) (depth_in ps r objects) fs else fs

-- the objects after a declaration at file scope
abbrev pub globals_after : Decl → (objects : List (List ℕ)) → List (List ℕ)
globals_after (Declare from an b ps n (Members ds)) objects = objects
globals_after (Declare from an b ps n r) objects =
    if is_function ps then objects else declared_name n ∷ objects

-- the functions after declarations at file scope
abbrev pub rows_of : Decls → (objects : List (List ℕ)) → List Row → List Row
rows_of NoDecls objects fs = fs
rows_of (MoreDecls d ds) objects fs = rows_of ds (globals_after d objects) (rows_after d objects fs)

-- the functions of a source, in the order in which they are first declared
abbrev pub functions_of : Decls → List Row
functions_of ds = rows_of ds [] []

-- deeper than 64 values
abbrev pub is_wide_row : Option ℕ → Bool
is_wide_row None = false
is_wide_row (Some n) = nat_lt most_values n

-- the number of the first such function, where these have the places from one on
abbrev pub first_wide_row : (place : ℕ) → List Row → Option ℕ
first_wide_row place [] = None
first_wide_row place (f ∷ fs) = if is_wide_row f.depth then Some (first_source_function + place)
    else first_wide_row (suc place) fs

-- Whole sources (C11 6.9): structs, functions and globals.
use Rattle.std.specs.Prelude.{ℕ, zero, suc, ◌+◌, ◌-◌, ◌==◌, Bool, false, not, ◌&&◌, ◌||◌, nat_le, List, [], ◌∷◌, ◌++◌, length, map, is_some, codes, Option, Some, None}
use Rattle.source_limits.specs.Limits.{greatest_object}
use Rattle.r2_num.specs.declared.kinds.IntKind.TheVariants.{I32}
use Rattle.c_syntax.specs.declared.declaration.Base.TheVariants as bases
use Rattle.c_syntax.specs.Syntax.{Decl, Decls, Parts, Rest, Stmt, Block, Declare, NoDecls, MoreDecls, NoParts, Pointer, Array, Params, NoRest, Initial, Body, Members}
use Rattle.c_types_model.specs.Types.{CType, CTypes, Integer, FunctionOf, NoTypes, MoreTypes}
use Rattle.c_types_model.specs.Layouts.{extent_of, scalar, struct_of}
use Rattle.c_types_model.specs.declared.extent.Extent.{Extent}
use Rattle.c_builtins.specs.Table.{first_source_function}
use Rattle.c_scopes.specs.Scopes.{Scope, same_name, meaning_in}
use Rattle.c_types_rules.specs.Checked.{Checked, Fine, Broken, heard, keep, small, ◌>>=◌, ◌>>◌}
use Rattle.c_types_rules.specs.TypeTests.{same_type}
use Rattle.c_types_rules.specs.TypedTree as typed
use Rattle.c_types_rules.specs.Environment.{Environment, Meaning, Struct, FunctionNamed, GlobalNamed, extents, place_in, is_reserved, inner, declarable}
use Rattle.c_types_rules.specs.Expressions.{annotation_types, complete, declared_name, declared_type, with_parameter, parameter_types}
use Rattle.c_types_rules.specs.Statements.{Declared, Surroundings, start_of_stmt, statement, entries}
use Rattle.c_types_rules.specs.Initials as initials

pub record Function : Type 0 where
  pub name : List ℕ
  pub type : CType
  -- what it does, where the source says it
  pub body : Option typed.Body

pub record Global : Type 0 where
  pub name : List ℕ
  pub type : CType
  pub value : Option initials.Initial
  -- what stands in its value unevaluated, as in a body
  pub unevaluated : List typed.Typed

-- what a source declares: its structs by number, its functions by number less 16, its globals by place
pub record Program : Type 0 where
  pub structs : List Struct
  pub functions : List Function
  pub globals : List Global
  -- the names at file scope
  pub names : Scope Meaning

abbrev pub nothing : Program
nothing = record { structs = []; functions = []; globals = []; names = [] }

-- what is declared at file scope, where these are the tags of the structs that the source defines
abbrev pub at_file : List (List ℕ) → Program → Environment
at_file tags p = record { tags = tags; structs = p.structs; scopes = p.names ∷ [] }

-- ---- structs (C11 6.7.2.1)

abbrev pub tag_of : Decl → List (List ℕ)
tag_of (Declare from an (bases.Struct tag) ps n (Members ds)) = tag ∷ []
tag_of _ = []

-- the tags of the structs that a source defines, in its order
abbrev pub tags_of : Decls → List (List ℕ)
tags_of NoDecls = []
tags_of (MoreDecls d ds) = tag_of d ++ tags_of ds

abbrev pub among : List ℕ → List (List ℕ × CType) → Bool
among name members = is_some (meaning_in name members)

abbrev pub member_of : Environment → List (List ℕ × CType) → Decl → Checked (List ℕ × CType)
member_of env before (Declare from an b ps n r) = do
  t ← declared_type (Declare from an b ps n r) env
  complete (extents env) from t
  keep from 19 (not (is_reserved (declared_name n)))
  keep from 1 (not (among (declared_name n) before))
  Fine (declared_name n, t)

abbrev pub members_from : Environment → List (List ℕ × CType) → Decls → Checked (List (List ℕ × CType))
members_from env before NoDecls = Fine before
members_from env before (MoreDecls d ds) = do
  m ← member_of env before d
  members_from env (before ++ m ∷ []) ds

abbrev pub extent_or : Option Extent → Extent
extent_or (Some e) = e
extent_or None = scalar 1

abbrev pub extents_of : List Extent → List (List ℕ × CType) → List Extent
extents_of structs [] = []
extents_of structs ((name, t) ∷ members) = extent_or (extent_of structs t) ∷ extents_of structs members

-- the sizes and alignments of types in a program
abbrev pub extents_in : Program → List CType → List Extent
extents_in p [] = []
extents_in p (t ∷ ts) = extent_or (extent_of (map (λ s. s.extent) p.structs) t) ∷ extents_in p ts

abbrev pub is_next : ℕ → Option ℕ → Bool
is_next n (Some number) = number == n
is_next n None = false

-- a struct that isn't defined before
abbrev pub struct_defined : List (List ℕ) → Program → (from : ℕ) → (tag : List ℕ) → Decls → Checked Program
struct_defined tags p from tag ds = do
  keep from 19 (not (is_reserved tag))
  keep from 1 (is_next (length p.structs) (place_in tag tags))
  ms ← members_from (at_file tags p) [] ds
  let extent = struct_of (extents_of (extents (at_file tags p)) ms)
  small (nat_le extent.size greatest_object)
  Fine (record p { structs = p.structs ++ record { members = ms; extent = extent } ∷ [] })

-- ---- functions (C11 6.9.1)

-- the parameters of a function with a body are in the scope of its outermost block, and each has a name
abbrev mutual
  pub parameters : Decls → Environment → (place : ℕ) → CTypes → Checked Environment
  parameters NoDecls env place ts = Fine env
  parameters (MoreDecls d ds) env place NoTypes = Fine env
  parameters (MoreDecls d ds) env place (MoreTypes t ts) = do
    within ← parameter d env place t
    parameters ds within (place + 1) ts

  pub parameter : Decl → Environment → (place : ℕ) → CType → Checked Environment
  parameter (Declare from an b ps n r) env place t = do
    keep from 21 (is_some n)
    with_parameter env from place n t

-- the parameters that stand nearest to the name
abbrev pub nearest : Parts → Decls
nearest NoParts = NoDecls
nearest (Pointer from ps) = nearest ps
nearest (Array from x ps) = nearest ps
nearest (Params from ds NoParts) = ds
nearest (Params from ds ps) = nearest ps

abbrev pub listed : CTypes → List CType
listed NoTypes = []
listed (MoreTypes t ts) = t ∷ listed ts

abbrev pub main : List ℕ
main = codes "main"

-- the function where a program begins is int main(void) (C11 5.1.2.2.1)
abbrev pub main_type : CType
main_type = FunctionOf (Integer I32) NoTypes

abbrev pub is_main : List ℕ → CType → Bool
is_main name t = not (same_name name main) || same_type t main_type

-- a function that was declared before is declared again with an equal type (C11 6.7, 4)
abbrev pub declared_again : Program → (from : ℕ) → CType → Option Meaning → (name : List ℕ) →
    Checked (ℕ × Program)
declared_again p from t (Some (FunctionNamed number u)) name =
    keep from 1 (same_type t u) >> Fine (number, p)
declared_again p from t (Some m) name = Broken from 1
declared_again p from t None name =
    let number = length p.functions + first_source_function in
    Fine (
      number,
      record p {
        functions = p.functions ++ record { name = name; type = t; body = None } ∷ [];
        names = (name, FunctionNamed number t) ∷ p.names;
      },
    )

-- the number of a function, and what is declared with it
abbrev pub function_declared : Program → (from : ℕ) → CType → (name : List ℕ) → Checked (ℕ × Program)
function_declared p from t name = do
  keep from 19 (not (is_reserved name))
  declared_again p from t (meaning_in name p.names) name

abbrev pub body_at : List Function → ℕ → Option typed.Body
body_at [] place = None
body_at (f ∷ fs) zero = f.body
body_at (f ∷ fs) (suc place) = body_at fs place

abbrev pub with_body : List Function → ℕ → typed.Body → List Function
with_body [] place b = []
with_body (f ∷ fs) zero b = record f { body = Some b } ∷ fs
with_body (f ∷ fs) (suc place) b = f ∷ with_body fs place b

abbrev pub result_of : CType → CType
result_of (FunctionOf r ts) = r
result_of t = t

abbrev pub params_of : CType → CTypes
params_of (FunctionOf r ts) = ts
params_of t = NoTypes

-- the entries of a block, in the scope where it stands
abbrev pub block_of : Stmt → Surroundings → Declared → Checked (List CType × typed.Statement)
block_of (Block from es) p d = do
  a ← entries es p d
  Fine (a.0, typed.Block a.1)
block_of s p d = statement s p d

-- the statements of a function's outermost block, whose scope has the parameters too (C11 6.2.1, 4)
abbrev pub block_body : Environment → CType → Parts → Stmt → Checked typed.Body
block_body env t ps s = do
  within ← parameters (nearest ps) (inner env) 0 (params_of t)
  a ← heard (block_of s (record { result = result_of t; in_loop = false })
      (record { env = within; locals = listed (params_of t) }))
  Fine (record {
    from = start_of_stmt s;
    locals = a.0.0;
    statements = a.0.1;
    in_params = [];
    unevaluated = a.1;
  })

-- the same, with what stands unevaluated in the parameters
abbrev pub body_of : Environment → CType → Parts → Stmt → Checked typed.Body
body_of env t ps s = do
  params ← heard (parameter_types (nearest ps) (inner env) 0)
  b ← block_body env t ps s
  Fine (record b { in_params = params.1 })

-- a function that has a body once at most
abbrev pub function_defined : List (List ℕ) → Program → (from place : ℕ) → (name : List ℕ) → CType →
    Parts → Stmt → Checked Program
function_defined tags p from place name t ps s = do
  keep from 21 (not (is_some (body_at p.functions place)))
  keep from 18 (is_main name t)
  b ← body_of (at_file tags p) t ps s
  Fine (record p { functions = with_body p.functions place b })

abbrev pub function_rest : List (List ℕ) → Program → (from place : ℕ) → (name : List ℕ) → CType → Parts →
    Rest → Checked Program
function_rest tags p from place name t ps NoRest = Fine p
function_rest tags p from place name t ps (Initial v) = Broken from 16
function_rest tags p from place name t ps (Body s) = function_defined tags p from place name t ps s
function_rest tags p from place name t ps (Members ds) = Broken from 3

abbrev pub function : List (List ℕ) → Program → (from : ℕ) → (name : List ℕ) → CType → Parts → Rest →
    Checked Program
function tags p from name t ps r = do
  a ← function_declared p from t name
  function_rest tags a.1 from (a.0 - first_source_function) name t ps r

-- ---- globals

abbrev pub global_value : List (List ℕ) → Program → (from : ℕ) → CType → Rest →
    Checked (Option initials.Initial)
global_value tags p from t NoRest = Fine None
global_value tags p from t (Initial v) = do
  x ← initials.initial v (at_file tags p) t
  Fine (Some x)
global_value tags p from t (Body s) = Broken from 21
global_value tags p from t (Members ds) = Broken from 3

-- a global, whose name is declared before its value
abbrev pub global : List (List ℕ) → Program → (from : ℕ) → (name : List ℕ) → CType → Rest → Checked Program
global tags p from name t r = do
  complete (extents (at_file tags p)) from t
  declarable (at_file tags p) from name
  let named = record p { names = (name, GlobalNamed (length p.globals) t) ∷ p.names }
  x ← heard (global_value tags named from t r)
  Fine (record named {
    globals = p.globals ++ record { name = name; type = t; value = x.0; unevaluated = x.1 } ∷ [];
  })

-- ---- sources

abbrev pub function_or_global : List (List ℕ) → Program → (from : ℕ) → (name : List ℕ) → CType → Parts →
    Rest → Checked Program
function_or_global tags p from name (FunctionOf r ts) ps rest =
    function tags p from name (FunctionOf r ts) ps rest
function_or_global tags p from name t ps rest = global tags p from name t rest

abbrev pub declaration : List (List ℕ) → Program → Decl → Checked Program
declaration tags p (Declare from an (bases.Struct tag) ps n (Members ds)) =
    struct_defined tags p from tag ds
declaration tags p (Declare from an b ps n r) = do
  annotation_types an (at_file tags p)
  t ← declared_type (Declare from an b ps n r) (at_file tags p)
  function_or_global tags p from (declared_name n) t ps r

abbrev pub declarations : List (List ℕ) → Program → Decls → Checked Program
declarations tags p NoDecls = Fine p
declarations tags p (MoreDecls d ds) = do
  q ← declaration tags p d
  declarations tags q ds

abbrev pub has_main : List Function → Bool
has_main [] = false
has_main (f ∷ fs) = (same_name f.name main && is_some f.body) || has_main fs

-- what a source declares, or a rule that it breaks; one of its functions is main, and has a body
abbrev pub program : Decls → Checked Program
program ds = do
  p ← declarations (tags_of ds) nothing ds
  keep 0 18 (has_main p.functions)
  Fine p

-- What stands unevaluated in small sources.
use Rattle.std.specs.Prelude.{List, [], ◌++◌, map, codes, Option, Some, None}
use Rattle.c_syntax.specs.Syntax.{Decl, Expr, SizeofExpr, SizeofType, Declare, MoreDecls, NoDecls, NoAnnots, Parts, NoParts, Params, NoRest, Body, Block, MoreEntries, NoEntries, StmtEntry, Return, OneExpr}
use Rattle.c_types_rules.specs.TypedTree as typed
use Rattle.c_types_rules.specs.TypedTree.{Typed}
use Rattle.c_types_rules.specs.Sources.{Function, Global}
use Rattle.c_types_rules.specs.Limits.{Outcome, outcome}
use Rattle.c_types_rules.specs.Limits as limits
use Rattle.c_types_examples.specs.Small.{char_base, declaring, int_base, num, source}

abbrev in_body : Option typed.Body → List Typed
in_body (Some b) = b.in_params ++ b.unevaluated
in_body None = []

abbrev bodies_found : Outcome → List (List Typed)
bodies_found (limits.Typed p) = map (λ f. in_body f.body) p.functions
bodies_found _ = []

abbrev globals_found : Outcome → List (List Typed)
globals_found (limits.Typed p) = map (λ g. g.unevaluated) p.globals
globals_found _ = []

-- in the functions of a source, by number; nothing where there is no body
abbrev pub in_functions : List Decl → List (List Typed)
in_functions ds = bodies_found (outcome (source ds))

-- in the values of its globals, by place
abbrev pub in_globals : List Decl → List (List Typed)
in_globals ds = globals_found (outcome (source ds))

-- int f(d) { return 0; }
abbrev pub taking : Decl → Decl
taking d = declaring int_base (Params 8 (MoreDecls d NoDecls) NoParts) (codes "f")
    (Body (Block 20 (MoreEntries (StmtEntry (Return 22 (OneExpr (num 0)))) NoEntries)))

abbrev pub size_of : Expr → Expr
size_of x = SizeofExpr 30 x

-- the size of a type of char with these parts
abbrev pub size_of_chars : Parts → Expr
size_of_chars ps = SizeofType 30 (Declare 31 NoAnnots char_base ps None NoRest)

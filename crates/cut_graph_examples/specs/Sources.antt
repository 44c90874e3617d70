-- Small sources, and what they mention.
use Rattle.std.specs.Prelude.{ℕ, List, [], ◌∷◌, codes}
use Rattle.c_syntax.specs.Syntax.{Array, Decl, Expr, Parts, Rest, Block, Body, LocalEntry, MoreDecls, MoreEntries, NoDecls, NoEntries, NoParts, NoRest, OneExpr, Params, Pointer, Return, StmtEntry, Initial, Plain, Braces, MoreValues, NoValues}
use Rattle.c_types_rules.specs.Limits.{Outcome, outcome}
use Rattle.c_types_rules.specs.Limits as limits
use Rattle.c_types_examples.specs.Small.{declaring, int_base, name, num, source, struct_with}
use Rattle.cut_graph_rules.specs.declared.mention.Mention.{Mention}
use Rattle.cut_graph_rules.specs.Sources.{Mentioned, mentioned, mentions_of}

abbrev no_params : Parts
no_params = Params 8 NoDecls NoParts

-- int f(void);
abbrev pub external : List ℕ → Decl
external f = declaring int_base no_params f NoRest

-- int f(void) { return x; }
abbrev pub giving : List ℕ → Expr → Decl
giving f x = declaring int_base no_params f
    (Body (Block 20 (MoreEntries (StmtEntry (Return 22 (OneExpr x))) NoEntries)))

-- int f(void) { int x; return x; }
abbrev pub hiding : (f : List ℕ) → List ℕ → Decl
hiding f x = declaring int_base no_params f
    (Body (Block 20 (MoreEntries (LocalEntry (MoreDecls (declaring int_base NoParts x NoRest) NoDecls))
    (MoreEntries (StmtEntry (Return 22 (OneExpr (name x)))) NoEntries))))

-- a pointer to a function without parameters, and what is nearer to its name
abbrev pub function_pointer : Parts → Parts
function_pointer ps = Params 8 NoDecls (Pointer 9 ps)

-- struct s { int *p; int a[2]; };
abbrev pub with_members : Decl
with_members = struct_with (codes "s") (declaring int_base (Pointer 4 NoParts) (codes "p") NoRest ∷
    declaring int_base (Array 5 (num 2) NoParts) (codes "a") NoRest ∷ [])

-- = { x }
abbrev pub only : Expr → Rest
only x = Initial (Braces 12 (MoreValues (Plain x) NoValues))

abbrev pub found : Outcome → Mentioned
found (limits.Typed p) = mentions_of p
found _ = mentioned [] []

-- what a source mentions
abbrev pub mentions_in_source : List Decl → Mentioned
mentions_in_source ds = found (outcome (source ds))

-- by its functions, by number
abbrev pub by_functions : List Decl → List (List Mention)
by_functions ds = (mentions_in_source ds).functions

-- by the values of its globals, by place
abbrev pub by_values : List Decl → List (List Mention)
by_values ds = (mentions_in_source ds).globals

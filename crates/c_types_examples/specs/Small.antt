-- Small sources, and what is found of them.
use Rattle.std.specs.Prelude.{ℕ, ℤ, pos, Bool, true, false, List, [], ◌∷◌, map, codes, Option, Some, None}
use Rattle.c_lexer.specs.declared.token.Sign.{Sign}
use Rattle.c_lexer.specs.declared.token.Sign.TheVariants as signs
use Rattle.c_lexer.specs.declared.token.Suffix.{Suffix}
use Rattle.c_lexer.specs.declared.token.Suffix.TheVariants as suffixes
use Rattle.c_syntax.specs.declared.declaration.Base.{Base}
use Rattle.c_syntax.specs.declared.declaration.Base.TheVariants as bases
use Rattle.c_syntax.specs.Syntax.{Expr, Exprs, Decl, Decls, Parts, Rest, Stmt, Entries, Name, Number, Char, Binary, Cond, Prefix, Cast, Call, SizeofExpr, NoExprs, MoreExprs, Declare, NoDecls, MoreDecls, NoAnnots, NoParts, Pointer, Array, Params, NoRest, Initial, Plain, Body, Members, Block, Return, NoEntries, MoreEntries, LocalEntry, StmtEntry, OneExpr, decls_then}
use Rattle.c_types_model.specs.Types.{CType}
use Rattle.c_types_model.specs.declared.extent.Extent.{Extent}
use Rattle.c_types_rules.specs.Checked.{Checked, Fine, Noted, Broken}
use Rattle.c_types_rules.specs.TypedTree.{Typed, AValue, BuiltinFunction, CallOf, typed_type, value_of}
use Rattle.c_types_rules.specs.Constants.{integer_constant}
use Rattle.c_types_rules.specs.Environment.{Environment}
use Rattle.c_types_rules.specs.Expressions.{expression}
use Rattle.c_types_rules.specs.Sources.{Program}
use Rattle.c_types_rules.specs.Limits.{Which, Outcome, outcome}
use Rattle.c_types_rules.specs.Limits as limits

-- ---- expressions

-- decimal numbers, without a suffix and with one
abbrev pub num : ℕ → Expr
num n = Number 30 n suffixes.Plain true

abbrev pub num_u : ℕ → Expr
num_u n = Number 30 n suffixes.U true

abbrev pub num_l : ℕ → Expr
num_l n = Number 30 n suffixes.L true

abbrev pub two : Sign → Expr → Expr → Expr
two s x y = Binary 30 s x y

abbrev pub minus : Expr → Expr
minus x = Prefix 30 signs.Minus x

abbrev pub choose : Expr → Expr → Expr → Expr
choose c x y = Cond 30 c x y

abbrev pub name : List ℕ → Expr
name n = Name 30 n

abbrev pub call : List ℕ → Exprs → Expr
call f xs = Call 30 (Name 30 f) xs

-- a cast to the type of a base with these parts
abbrev pub cast_to : Base → Parts → Expr → Expr
cast_to b ps x = Cast 30 (Declare 31 NoAnnots b ps None NoRest) x

abbrev pub int_base : Base
int_base = bases.Int 4 true

abbrev pub char_base : Base
char_base = bases.Int 1 true

abbrev pub unsigned_char_base : Base
unsigned_char_base = bases.Int 1 false

abbrev pub long_base : Base
long_base = bases.Int 8 true

-- ---- what is found of them where nothing is declared

abbrev nowhere : Environment
nowhere = record { tags = []; structs = []; scopes = [] }

abbrev type_found : Checked Typed → Option CType
type_found (Fine x) = Some (typed_type x)
type_found (Noted n x) = Some (typed_type x)
type_found (Broken from rule) = None

abbrev constant_found : Checked Typed → Option ℤ
constant_found (Fine x) = integer_constant (value_of x)
constant_found (Noted n x) = integer_constant (value_of x)
constant_found (Broken from rule) = None

-- the type of an expression
abbrev pub type_of : Expr → Option CType
type_of x = type_found (expression x nowhere)

-- its value, where it is an integer constant expression
abbrev pub constant_of : Expr → Option ℤ
constant_of x = constant_found (expression x nowhere)

abbrev name_found : Checked Typed → Option ℕ
name_found (Fine (AValue (CallOf (BuiltinFunction from b) vs t))) = Some from
name_found _ = None

-- where the name of the builtin stands that an expression calls
abbrev pub called_at : Expr → Option ℕ
called_at x = name_found (expression x nowhere)

-- ---- sources

-- an object or function of this base, with these parts
abbrev pub declaring : Base → Parts → List ℕ → Rest → Decl
declaring b ps n r = Declare 10 NoAnnots b ps (Some n) r

abbrev no_params : Parts
no_params = Params 8 NoDecls NoParts

-- int main(void) { return x; }
abbrev pub main_giving : Expr → Decl
main_giving x = declaring int_base no_params (codes "main")
    (Body (Block 20 (MoreEntries (StmtEntry (Return 22 (OneExpr x))) NoEntries)))

-- int main(void) { d; return 0; }
abbrev pub main_with : Decl → Decl
main_with d = declaring int_base no_params (codes "main")
    (Body (Block 20 (MoreEntries (LocalEntry (MoreDecls d NoDecls))
    (MoreEntries (StmtEntry (Return 22 (OneExpr (num 0)))) NoEntries))))

abbrev pub source : List Decl → Decls
source [] = NoDecls
source (d ∷ ds) = MoreDecls d (source ds)

-- the rule that a source breaks, and where
abbrev rule_found : Outcome → Option (ℕ × ℕ)
rule_found (limits.Rule from rule) = Some (from, rule)
rule_found _ = None

abbrev pub rule_of : List Decl → Option (ℕ × ℕ)
rule_of ds = rule_found (outcome (source ds))

abbrev limit_found : Outcome → Option Which
limit_found (limits.Limit w) = Some w
limit_found _ = None

abbrev pub limit_of : List Decl → Option Which
limit_of ds = limit_found (outcome (source ds))

abbrev is_found : Outcome → Bool
is_found (limits.Typed p) = true
is_found _ = false

-- it breaks no rule, and exceeds no limit
abbrev pub is_typed : List Decl → Bool
is_typed ds = is_found (outcome (source ds))

abbrev extents_found : Outcome → List Extent
extents_found (limits.Typed p) = map (λ s. s.extent) p.structs
extents_found _ = []

abbrev pub structs_of : List Decl → List Extent
structs_of ds = extents_found (outcome (source ds))

-- a struct with these members
abbrev pub struct_with : List ℕ → List Decl → Decl
struct_with tag ds = Declare 0 NoAnnots (bases.Struct tag) NoParts None (Members (source ds))

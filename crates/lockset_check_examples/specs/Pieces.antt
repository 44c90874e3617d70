-- Pieces of small sources. Offsets count only where they are given.
use Rattle.std.specs.Prelude.{ℕ, true, List, [], ◌∷◌, codes, Option, Some, None}
use Rattle.c_lexer.specs.declared.token.Suffix.TheVariants as suffixes
use Rattle.c_lexer.specs.declared.token.Sign.{Sign}
use Rattle.c_lexer.specs.declared.token.Sign.TheVariants as signs
use Rattle.c_syntax.specs.declared.declaration.Base.{Base}
use Rattle.c_syntax.specs.declared.declaration.Base.TheVariants as bases
use Rattle.c_syntax.specs.Syntax.{Annot, Annotate, Annots, Assign, Atom, Binary, Block, Body, Call, Cast, Decl, Decls, Declare, Entries, Expr, Expression, Members, MoreAnnots, MoreDecls, MoreEntries, MoreExprs, MoreItems, Name, NoAnnots, NoDecls, NoEntries, NoExprs, NoItems, NoParts, NoRest, Number, NumberAtom, OneExpr, OneFactor, Params, Parts, Pointer, Rest, Return, Stmt, StmtEntry}

-- ---- expressions

-- decimal numbers, without a suffix and with `L`
abbrev pub num : ℕ → Expr
num n = Number 0 n suffixes.Plain true

abbrev pub num_l : ℕ → Expr
num_l n = Number 0 n suffixes.L true

abbrev pub two : Sign → Expr → Expr → Expr
two sign x y = Binary 0 sign x y

abbrev pub int_base : Base
int_base = bases.Int 4 true

-- a cast to the type of a base with these parts
abbrev pub cast_to : Base → Parts → Expr → Expr
cast_to b ps x = Cast 0 (Declare 0 NoAnnots b ps None NoRest) x

-- calls of builtins and functions, where their names stand
abbrev pub calling : (from : ℕ) → List ℕ → Expr → Expr
calling from f x = Call from (Name from f) (MoreExprs x NoExprs)

abbrev pub lock_of : (from : ℕ) → Expr → Expr
lock_of from x = calling from (codes "r2_lock") x

abbrev pub unlock_of : (from : ℕ) → Expr → Expr
unlock_of from x = calling from (codes "r2_unlock") x

-- r2_lock(0) and r2_unlock(0)
abbrev pub lock : (from : ℕ) → Expr
lock from = lock_of from (num 0)

abbrev pub unlock : (from : ℕ) → Expr
unlock from = unlock_of from (num 0)

-- the global n, where it is named
abbrev pub n_at : (from : ℕ) → Expr
n_at from = Name from (codes "n")

abbrev pub assign : Expr → Expr → Expr
assign x y = Assign 0 signs.Assign x y

-- ---- statements

abbrev pub doing : Expr → Stmt
doing x = Expression 0 (OneExpr x)

-- n = 1;
abbrev pub set_n : (from : ℕ) → Stmt
set_n from = doing (assign (n_at from) (num 1))

abbrev pub give : (from : ℕ) → Expr → Stmt
give from x = Return from (OneExpr x)

abbrev entries : List Stmt → Entries
entries [] = NoEntries
entries (s ∷ ss) = MoreEntries (StmtEntry s) (entries ss)

abbrev pub block : List Stmt → Stmt
block ss = Block 0 (entries ss)

-- ---- declarations

abbrev pub source : List Decl → Decls
source [] = NoDecls
source (d ∷ ds) = MoreDecls d (source ds)

-- a word with one item
abbrev word_with : List ℕ → Atom → Annot
word_with word item = Annotate 0 word (MoreItems (OneFactor 0 item) NoItems)

-- an object or function of this base, with these parts
abbrev pub declaring : Base → Parts → List ℕ → Rest → Decl
declaring b ps name r = Declare 0 NoAnnots b ps (Some name) r

-- a struct with these members
abbrev pub struct_with : List ℕ → List Decl → Decl
struct_with tag ds = Declare 0 NoAnnots (bases.Struct tag) NoParts None (Members (source ds))

abbrev guarded_by : ℕ → Annots
guarded_by k = MoreAnnots (word_with (codes "guarded_by") (NumberAtom k)) NoAnnots

abbrev pub holding : List ℕ → Annots
holding [] = NoAnnots
holding (k ∷ ks) = MoreAnnots (word_with (codes "holds") (NumberAtom k)) (holding ks)

-- [guarded_by(0)] BASE n..;
abbrev pub guarded_as : Base → Parts → Decl
guarded_as b ps = Declare 0 (guarded_by 0) b ps (Some (codes "n")) NoRest

-- [guarded_by(0)] int n;
abbrev pub guarded_n : Decl
guarded_n = guarded_as int_base NoParts

-- int name;
abbrev pub int_named : List ℕ → Decl
int_named name = declaring int_base NoParts name NoRest

-- int *name;
abbrev pub pointer_named : List ℕ → Decl
pointer_named name = declaring int_base (Pointer 0 NoParts) name NoRest

abbrev no_params : Parts
no_params = Params 0 NoDecls NoParts

-- int name(..) { .. }, whose block stands at this offset
abbrev pub function_taking : (from : ℕ) → Annots → List ℕ → Parts → List Stmt → Decl
function_taking from an name ps ss = Declare 0 an int_base ps (Some name) (Body (Block from (entries ss)))

-- int name(void) { .. }
abbrev pub function_at : (from : ℕ) → Annots → List ℕ → List Stmt → Decl
function_at from an name ss = function_taking from an name no_params ss

-- void *p, in brackets, with the parts that are nearer to the name
abbrev pub taking_pointer : (name : Option (List ℕ)) → Parts → Parts
taking_pointer name ps =
    Params 0 (MoreDecls (Declare 0 NoAnnots bases.Void (Pointer 0 NoParts) name NoRest) NoDecls) ps

-- int main(void) { .. }
abbrev pub main_of : List Stmt → Decl
main_of ss = function_at 38 NoAnnots (codes "main") ss

-- [guarded_by(0)] int n; int main(void) { .. }
abbrev pub guarding : List Stmt → List Decl
guarding ss = guarded_n ∷ (main_of ss ∷ [])

abbrev pub return_0 : Stmt
return_0 = give 90 (num 0)

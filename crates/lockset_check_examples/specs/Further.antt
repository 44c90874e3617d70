-- More small sources with a guarded global, in the form of those of `Programs`.
use Rattle.std.specs.Prelude.{List, [], ◌∷◌, codes, Some}
use Rattle.c_lexer.specs.declared.token.Sign.TheVariants as signs
use Rattle.c_syntax.specs.declared.declaration.Base.TheVariants as bases
use Rattle.c_syntax.specs.Syntax.{Array, Break, Continue, Decl, Declare, Do, Index, Member, MoreDecls, Name, NoAnnots, NoDecls, NoParts, NoRest, Params, Parts, Prefix, Stmt, While}
use Rattle.lockset_check_examples.specs.Pieces.{assign, block, calling, declaring, doing, function_at, function_taking, give, guarded_as, guarded_n, guarding, holding, int_base, int_named, lock, lock_of, main_of, n_at, num, pointer_named, return_0, set_n, struct_with, unlock}

-- ---- loops

-- r2_lock(0); while (1) { r2_unlock(0); continue; } n = 1; r2_unlock(0);
abbrev pub unlocked_at_continue : List Decl
unlocked_at_continue = guarding (doing (lock 40) ∷
    While 52 (num 1) (block (doing (unlock 59) ∷ Continue 64 ∷ [])) ∷ set_n 73 ∷ doing (unlock 80) ∷
    return_0 ∷ [])

-- while (1) { r2_lock(0); while (1) { n = 1; break; } r2_unlock(0); }
abbrev pub inner_break : List Decl
inner_break = guarding (While 40 (num 1) (block (doing (lock 42) ∷
    While 52 (num 1) (block (set_n 58 ∷ Break 64 ∷ [])) ∷ doing (unlock 70) ∷ [])) ∷ return_0 ∷ [])

-- r2_lock(0); do n = 1; while (r2_unlock(0)); n = 1; r2_unlock(0);
abbrev pub unlocked_by_do : List Decl
unlocked_by_do = guarding (doing (lock 40) ∷ Do 52 (set_n 55) (unlock 63) ∷ set_n 73 ∷ doing (unlock 80) ∷
    return_0 ∷ [])

-- ---- addresses

-- r2_lock(0); p = &n.y[0]; r2_unlock(0); where n is a struct s { int y[2]; }
abbrev pub part_is_address : List Decl
part_is_address = pointer_named (codes "p") ∷
    (struct_with (codes "s") (declaring int_base (Array 0 (num 2) NoParts) (codes "y") NoRest ∷ []) ∷
    (guarded_as (bases.Struct (codes "s")) NoParts ∷ (main_of (doing (lock 40) ∷
    doing (assign (Name 52 (codes "p")) (Prefix 56 signs.Ampersand
    (Index 57 (Member 57 (n_at 57) (codes "y")) (num 0)))) ∷ doing (unlock 66) ∷ return_0 ∷ []) ∷ [])))

-- r2_lock(0); *n = 1; r2_unlock(0); where n has two elements
abbrev pub pointed_is_address : List Decl
pointed_is_address = guarded_as int_base (Array 0 (num 2) NoParts) ∷ (main_of (doing (lock 40) ∷
    doing (assign (Prefix 52 signs.Star (n_at 53)) (num 1)) ∷ doing (unlock 60) ∷ return_0 ∷ []) ∷ [])

-- ---- constants

-- r2_lock(c); with a global c
abbrev pub named_mutex : List Decl
named_mutex = int_named (codes "c") ∷ guarding (doing (lock_of 40 (Name 48 (codes "c"))) ∷ return_0 ∷ [])

-- ---- functions

-- [holds(0)] int f(void) { return r2_unlock(0); }
abbrev pub unlocked_by_return : List Decl
unlocked_by_return = guarded_n ∷ (function_at 20 (holding (0 ∷ [])) (codes "f")
    (give 30 (unlock 37) ∷ []) ∷ (main_of (return_0 ∷ []) ∷ []))

-- int a, in brackets
abbrev taking_int : Parts
taking_int = Params 0 (MoreDecls (Declare 0 NoAnnots int_base NoParts (Some (codes "a")) NoRest) NoDecls)
    NoParts

-- [holds(0)] int f(int a) { n = 1; return 0; }, and the body of `main`
abbrev with_argument : List Stmt → List Decl
with_argument ss = guarded_n ∷ (function_taking 20 (holding (0 ∷ [])) (codes "f") taking_int
    (set_n 30 ∷ return_0 ∷ []) ∷ (main_of ss ∷ []))

-- f(r2_lock(0)); r2_unlock(0);
abbrev pub locked_in_argument : List Decl
locked_in_argument = with_argument (doing (calling 60 (codes "f") (lock 62)) ∷ doing (unlock 80) ∷
    return_0 ∷ [])

-- r2_lock(0); f(r2_unlock(0));
abbrev pub unlocked_in_argument : List Decl
unlocked_in_argument = with_argument (doing (lock 40) ∷ doing (calling 60 (codes "f") (unlock 62)) ∷
    return_0 ∷ [])

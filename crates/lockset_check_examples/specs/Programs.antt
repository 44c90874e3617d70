-- Small sources with a guarded global. `n` is `[guarded_by(0)] int n;` where nothing else is said, and what is
-- shown is the body of `main`, which ends with `return 0;`.
use Rattle.std.specs.Prelude.{ℕ, List, [], ◌∷◌, ◌++◌, codes, Some, None}
use Rattle.c_lexer.specs.declared.token.Sign.TheVariants as signs
use Rattle.c_syntax.specs.declared.declaration.Base.TheVariants as bases
use Rattle.c_syntax.specs.Syntax.{Array, Assign, Break, Call, Cond, Decl, ExprFirst, Expression, For, If, IfElse, Index, Name, NoExpr, NoExprs, NoParts, OneExpr, Pointer, Postfix, Prefix, SizeofExpr, Stmt, While, Do, Initial, Plain, Params, NoDecls, MoreExprs}
use Rattle.lockset_check_examples.specs.Pieces.{assign, block, calling, cast_to, declaring, doing, function_at, function_taking, give, guarded_as, guarded_n, guarding, holding, int_base, int_named, lock, lock_of, main_of, n_at, num, num_l, pointer_named, return_0, set_n, struct_with, taking_pointer, two, unlock, unlock_of}

-- ---- ways that join

-- r2_lock(0); if (1) r2_unlock(0); n = 1;
abbrev pub unlocked_one_way : List Decl
unlocked_one_way = guarding (doing (lock 40) ∷ If 52 (num 1) (doing (unlock 59)) ∷ set_n 73 ∷ return_0 ∷ [])

-- r2_lock(0); if (1) { r2_unlock(0); r2_lock(0); } n = 1; r2_unlock(0);
abbrev pub locked_again : List Decl
locked_again = guarding (doing (lock 40) ∷
    If 52 (num 1) (block (doing (unlock 59) ∷ doing (lock 61) ∷ [])) ∷ set_n 73 ∷ doing (unlock 80) ∷
    return_0 ∷ [])

-- r2_lock(0) && r2_unlock(0); n = 1;
abbrev pub unlocked_by_and : List Decl
unlocked_by_and = guarding (doing (two signs.AndAnd (lock 40) (unlock 54)) ∷ set_n 73 ∷ return_0 ∷ [])

-- r2_lock(0) || 1; n = 1; r2_unlock(0);
abbrev pub kept_by_or : List Decl
kept_by_or = guarding (doing (two signs.OrOr (lock 40) (num 1)) ∷ set_n 73 ∷ doing (unlock 80) ∷
    return_0 ∷ [])

-- r2_lock(0); 1 ? r2_unlock(0) : 0; n = 1;
abbrev pub unlocked_by_choice : List Decl
unlocked_by_choice = guarding (doing (lock 40) ∷ doing (Cond 52 (num 1) (unlock 56) (num 0)) ∷ set_n 73 ∷
    return_0 ∷ [])

-- r2_lock(0); 1 ? r2_lock(0) : 0; n = 1; r2_unlock(0);
abbrev pub kept_by_choice : List Decl
kept_by_choice = guarding (doing (lock 40) ∷ doing (Cond 52 (num 1) (lock 56) (num 0)) ∷ set_n 73 ∷
    doing (unlock 80) ∷ return_0 ∷ [])

-- if (c) r2_lock(0); r2_lock(0); n = 1; r2_unlock(0); with a global c
abbrev pub locked_twice : List Decl
locked_twice = int_named (codes "c") ∷ guarding (If 0 (Name 0 (codes "c")) (doing (lock 0)) ∷
    doing (lock 0) ∷ set_n 73 ∷ doing (unlock 80) ∷ return_0 ∷ [])

-- return 0; n = 1;
abbrev pub after_return : List Decl
after_return = guarding (give 40 (num 0) ∷ set_n 73 ∷ [])

-- if (1) return 0; else return 1; n = 1;
abbrev pub after_two_returns : List Decl
after_two_returns = guarding (IfElse 40 (num 1) (give 47 (num 0)) (give 62 (num 1)) ∷ set_n 73 ∷
    return_0 ∷ [])

-- if (1) return 0; n = 1;
abbrev pub after_one_return : List Decl
after_one_return = guarding (If 40 (num 1) (give 47 (num 0)) ∷ set_n 73 ∷ return_0 ∷ [])

-- ---- loops

-- r2_lock(0); while (r2_unlock(0)) r2_lock(0); n = 1; r2_unlock(0);
abbrev pub unlocked_by_condition : List Decl
unlocked_by_condition = guarding (doing (lock 40) ∷ While 52 (unlock 59) (doing (lock 73)) ∷ set_n 85 ∷
    doing (unlock 92) ∷ return_0 ∷ [])

-- r2_lock(0); while (1) { r2_unlock(0); r2_lock(0); } n = 1; r2_unlock(0);
abbrev pub kept_by_rounds : List Decl
kept_by_rounds = guarding (doing (lock 40) ∷
    While 52 (num 1) (block (doing (unlock 59) ∷ doing (lock 73) ∷ [])) ∷ set_n 85 ∷ doing (unlock 92) ∷
    return_0 ∷ [])

-- for (i = 0; r2_lock(0); i++) ; with a global i
abbrev pub locked_by_condition : List Decl
locked_by_condition =
    int_named (codes "i") ∷ guarding (For 47 (ExprFirst (assign (Name 0 (codes "i")) (num 0)))
    (OneExpr (lock 60)) (OneExpr (Postfix 0 signs.Increment (Name 0 (codes "i")))) (Expression 0 NoExpr) ∷
    return_0 ∷ [])

-- for (r2_lock(0); n; n--) ; r2_unlock(0);
abbrev pub locked_before_rounds : List Decl
locked_before_rounds = guarding (For 40 (ExprFirst (lock 45)) (OneExpr (n_at 57))
    (OneExpr (Postfix 60 signs.Decrement (n_at 60))) (Expression 0 NoExpr) ∷ doing (unlock 70) ∷
    return_0 ∷ [])

-- do r2_lock(0); while (0);
abbrev pub locked_in_round : List Decl
locked_in_round = guarding (Do 40 (doing (lock 43)) (num 0) ∷ return_0 ∷ [])

-- while (1) { r2_lock(0); break; } n = 1;
abbrev pub locked_at_break : List Decl
locked_at_break = guarding (While 40 (num 1) (block (doing (lock 52) ∷ Break 64 ∷ [])) ∷ set_n 73 ∷
    return_0 ∷ [])

-- ---- touches

-- r2_lock(0); n = r2_unlock(0);
abbrev pub stored_unheld : List Decl
stored_unheld = guarding (doing (lock 40) ∷ doing (assign (n_at 52) (unlock 56)) ∷ return_0 ∷ [])

-- r2_lock(0); n = 1; n += 1; n++; r2_unlock(0);
abbrev pub touched_held : List Decl
touched_held = guarding (doing (lock 40) ∷ set_n 52 ∷
    doing (Assign 59 signs.PlusAssign (n_at 59) (num 1)) ∷ doing (Postfix 67 signs.Increment (n_at 67)) ∷
    doing (unlock 72) ∷ return_0 ∷ [])

-- n = r2_lock(0); r2_unlock(0);
abbrev pub named_unheld : List Decl
named_unheld = guarding (doing (assign (n_at 40) (lock 44)) ∷ doing (unlock 60) ∷ return_0 ∷ [])

-- r2_lock(0); n += r2_unlock(0);
abbrev pub changed_unheld : List Decl
changed_unheld = guarding (doing (lock 40) ∷ doing (Assign 52 signs.PlusAssign (n_at 52) (unlock 57)) ∷
    return_0 ∷ [])

abbrev with_array : List Stmt → List Decl
with_array ss = guarded_as int_base (Array 0 (num 2) NoParts) ∷ (main_of ss ∷ [])

-- r2_lock(0); n[r2_unlock(0)]; where n has two elements
abbrev pub loaded_unheld : List Decl
loaded_unheld = with_array (doing (lock 40) ∷ doing (Index 52 (n_at 52) (unlock 54)) ∷ return_0 ∷ [])

-- r2_lock(0); 0[n] = r2_unlock(0);
abbrev pub turned_unheld : List Decl
turned_unheld = with_array (doing (lock 40) ∷
    doing (assign (Index 52 (num 0) (n_at 54)) (unlock 59)) ∷ return_0 ∷ [])

-- struct s { int a; }; n has two of them, and the same body
abbrev pub struct_not_loaded : List Decl
struct_not_loaded = struct_with (codes "s") (int_named (codes "a") ∷ []) ∷
    (guarded_as (bases.Struct (codes "s")) (Array 0 (num 2) NoParts) ∷ (main_of (doing (lock 40) ∷
    doing (Index 52 (n_at 52) (unlock 54)) ∷ return_0 ∷ []) ∷ []))

-- sizeof(n);
abbrev pub size_is_not_looked_at : List Decl
size_is_not_looked_at = guarding (doing (SizeofExpr 40 (n_at 47)) ∷ return_0 ∷ [])

-- ---- addresses

-- p = &n;
abbrev pub address_taken : List Decl
address_taken = pointer_named (codes "p") ∷ guarding
    (doing (assign (Name 48 (codes "p")) (Prefix 52 signs.Ampersand (n_at 53))) ∷ return_0 ∷ [])

-- p = &c; with a global c that nothing guards
abbrev pub other_address : List Decl
other_address = pointer_named (codes "p") ∷ (int_named (codes "c") ∷ guarding
    (doing (assign (Name 48 (codes "p")) (Prefix 52 signs.Ampersand (Name 53 (codes "c")))) ∷ return_0 ∷
    []))

-- r2_lock(0); p = n[0]; r2_unlock(0); where n has two rows of two
abbrev pub row_is_no_address : List Decl
row_is_no_address = pointer_named (codes "p") ∷
    (guarded_as int_base (Array 0 (num 2) (Array 0 (num 2) NoParts)) ∷ (main_of (doing (lock 40) ∷
    doing (assign (Name 52 (codes "p")) (Index 56 (n_at 56) (num 0))) ∷ doing (unlock 62) ∷ return_0 ∷
    []) ∷ []))

-- r2_lock(0); p = n; r2_unlock(0); where n has two elements
abbrev pub array_is_address : List Decl
array_is_address = pointer_named (codes "p") ∷ with_array (doing (lock 40) ∷
    doing (assign (Name 52 (codes "p")) (n_at 56)) ∷ doing (unlock 60) ∷ return_0 ∷ [])

-- ---- constants

-- r2_lock(4294967296); n = 1; r2_unlock(0);
abbrev pub converted_mutex : List Decl
converted_mutex = guarding (doing (lock_of 40 (num 4294967296)) ∷ set_n 73 ∷ doing (unlock 80) ∷
    return_0 ∷ [])

-- r2_lock(0 ? 1 / 0 : 3); r2_unlock(3);
abbrev pub chosen_mutex : List Decl
chosen_mutex = guarding (doing (lock_of 40 (Cond 48 (num 0) (two signs.Slash (num 1) (num 0)) (num 3))) ∷
    doing (unlock_of 66 (num 3)) ∷ return_0 ∷ [])

-- r2_lock(1 / 0);
abbrev pub divided_mutex : List Decl
divided_mutex = guarding (doing (lock_of 40 (two signs.Slash (num 1) (num 0))) ∷ return_0 ∷ [])

-- r2_lock((0, 0));
abbrev pub sequence_mutex : List Decl
sequence_mutex = guarding (doing (lock_of 40 (two signs.Comma (num 0) (num 0))) ∷ return_0 ∷ [])

-- ---- functions

abbrev calling_f : (from : ℕ) → Stmt
calling_f from = doing (Call from (Name from (codes "f")) NoExprs)

-- [guarded_by(0)] int n; [holds..] int f(void) { .. } int main(void) { .. }, where the block of `f` stands at 20
abbrev with_whole : (holds : List ℕ) → List Stmt → List Stmt → List Decl
with_whole ks body ss = guarded_n ∷ (function_at 20 (holding ks) (codes "f") body ∷ (main_of ss ∷ []))

-- the same, where `f` ends with return 0;
abbrev with_f : (holds : List ℕ) → List Stmt → List Stmt → List Decl
with_f ks body ss = with_whole ks (body ++ return_0 ∷ []) ss

-- `f` holds 0 and 1, and is called where neither is held
abbrev pub called_without : List Decl
called_without = with_f (0 ∷ 1 ∷ []) (set_n 30 ∷ []) (calling_f 60 ∷ return_0 ∷ [])

-- r2_lock(0); f(); n = 1; r2_unlock(0); where `f` holds 0
abbrev pub called_with : List Decl
called_with = with_f (0 ∷ []) (set_n 30 ∷ []) (doing (lock 40) ∷ calling_f 60 ∷ set_n 73 ∷
    doing (unlock 80) ∷ return_0 ∷ [])

-- r2_lock(0); ( *f)(); r2_unlock(0); where `f` holds 0
abbrev pub called_by_pointer : List Decl
called_by_pointer = with_f (0 ∷ []) [] (doing (lock 40) ∷
    doing (Call 52 (Prefix 53 signs.Star (Name 54 (codes "f"))) NoExprs) ∷ doing (unlock 70) ∷
    return_0 ∷ [])

-- ( *f)(); where `f` holds nothing
abbrev pub called_freely : List Decl
called_freely = with_f [] [] (doing (Call 52 (Prefix 53 signs.Star (Name 54 (codes "f"))) NoExprs) ∷
    return_0 ∷ [])

-- `f` holds 0 and is the value of a global, int ( *t)(void) = f;
abbrev pub named_in_a_value : List Decl
named_in_a_value = function_at 20 (holding (0 ∷ [])) (codes "f") (return_0 ∷ []) ∷
    (declaring int_base (Params 0 NoDecls (Pointer 0 NoParts)) (codes "t")
    (Initial (Plain (Name 89 (codes "f")))) ∷ guarding (return_0 ∷ []))

-- `f` holds 0, and its body is r2_unlock(0);
abbrev pub lent_and_unlocked : List Decl
lent_and_unlocked = with_f (0 ∷ []) (doing (unlock 22) ∷ []) (return_0 ∷ [])

-- the same, but `f` ends without a return
abbrev pub unlocked_at_the_end : List Decl
unlocked_at_the_end = with_whole (0 ∷ []) (doing (unlock 22) ∷ []) (return_0 ∷ [])

-- `f` holds 0, and its body is r2_unlock(0); r2_lock(0); and that of `main` as in `called_with`
abbrev pub lent_and_given_back : List Decl
lent_and_given_back = with_f (0 ∷ []) (doing (unlock 22) ∷ doing (lock 36) ∷ []) (doing (lock 40) ∷
    calling_f 60 ∷ set_n 73 ∷ doing (unlock 80) ∷ return_0 ∷ [])

-- int f(void) { r2_unlock(0); .. } and int f(void) { r2_lock(0); .. }
abbrev pub unlocks_alone : List Decl
unlocks_alone = with_f [] (doing (unlock 22) ∷ []) (return_0 ∷ [])

abbrev pub locks_alone : List Decl
locks_alone = with_f [] (doing (lock 22) ∷ []) (return_0 ∷ [])

-- int f(void) { r2_lock(0); n = 1; r2_unlock(0); .. }, called
abbrev pub locks_and_unlocks : List Decl
locks_and_unlocks = with_f [] (doing (lock 22) ∷ set_n 34 ∷ doing (unlock 41) ∷ [])
    (calling_f 60 ∷ return_0 ∷ [])

-- int a; `f` holds 0, and is int f(void *p) { n = 1; return 0; }; a = r2_spawn((int ( *)(void *))0x1100L, 0); r2_lock(0);
-- f(0); r2_unlock(0); r2_join(a);
abbrev pub spawned_by_number : List Decl
spawned_by_number = int_named (codes "a") ∷ (guarded_n ∷
    (function_taking 20 (holding (0 ∷ [])) (codes "f") (taking_pointer (Some (codes "p")) NoParts)
    (set_n 30 ∷ return_0 ∷ []) ∷
    (main_of (doing (assign (Name 40 (codes "a")) (Call 44 (Name 44 (codes "r2_spawn"))
    (MoreExprs (cast_to int_base (taking_pointer None (Pointer 0 NoParts)) (num_l 0x1100))
    (MoreExprs (num 0) NoExprs)))) ∷ doing (lock 60) ∷ doing (calling 70 (codes "f") (num 0)) ∷
    doing (unlock 76) ∷ doing (calling 80 (codes "r2_join") (Name 88 (codes "a"))) ∷ return_0 ∷ []) ∷ [])))

-- (r2_unlock)(0);
abbrev pub unlocked_in_brackets : List Decl
unlocked_in_brackets = guarding (doing (Call 40 (Name 41 (codes "r2_unlock")) (MoreExprs (num 0) NoExprs)) ∷
    return_0 ∷ [])

-- int n; int main(void) { r2_unlock(0); .. }: nothing is guarded
abbrev pub nothing_guarded : List Decl
nothing_guarded = int_named (codes "n") ∷ (main_of (doing (unlock 40) ∷ return_0 ∷ []) ∷ [])

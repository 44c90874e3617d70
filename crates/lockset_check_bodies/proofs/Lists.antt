-- One of several, and those after it.
use Rattle.std.proofs.Common.{◌≡◌, ℕ, zero, suc, ◌+◌, ◌<◌, List, [], ◌∷◌, length, drop, get_or, add-one, Vec, Global, refl, sym, ap, ◌∙◌, subst, rules, arith}
use Rattle.std.proofs.Math.Seq.{drop-cons}
use mathlib.Core.Former.{Count}
use Rattle.c_types_rules.specs.Initials as initials
use Rattle.c_types_nodes.specs.Tables.{Table}
use Rattle.c_types_program.specs.declared.global.Initial.{Initial, Row_of-Initial, end_of-Initial, more_of-Initial, items-the_row-Initial}
use Rattle.c_types_program.specs.declared.global.Initial.TheVariants.{Listed}
use Rattle.c_types_program.specs.declared.global.Initial.TheViews.{the_lemmas}
use Rattle.c_types_program.specs.Declarations.{initial_in, initials_in, row_in}
use Rattle.c_types_program.specs.declared.statement.Statement.{Statement}
use Rattle.c_types_program.specs.Statements.{AllStatements, IsStatement, statement_in, statements_in}
use Rattle.lockset_check_bodies.proofs.Weights.{initial_weight, initials_weight, statement_weight, statements_weight}

-- those from a place on
pub one_more : {A : Type 0} (xs : List A) (i : ℕ) (x : A) → i < length xs → x ≡ get_or xs i x → drop i xs ≡ x ∷ drop (i + 1) xs
one_more {A} xs i x lt is =
    drop-cons xs i x lt ∙ (ap (λ (y : A). y ∷ drop (suc i) xs) (sym is) ∙ ap (λ (n : ℕ). x ∷ drop n xs) (sym (add-one i)))

-- ---- statements

at_place : (t : Table) (ss : List Statement) (i : ℕ) (d : Statement) → AllStatements t ss → i < length ss → IsStatement t (get_or ss i d)
at_place t [] i d h lt = absurd (omega arith)
at_place t (s ∷ ss) zero d h lt = h.0
at_place t (s ∷ ss) (suc i) d h lt = at_place t ss i d h.1 (omega arith)

pub statement_among : (t : Table) (ss : List Statement) (i : ℕ) (s : Statement) → AllStatements t ss → i < length ss → s ≡ get_or ss i s → IsStatement t s
statement_among t ss i s h lt is = subst (λ (x : Statement). IsStatement t x) (sym is) (at_place t ss i s h lt)

lighter : (t : Table) (ss : List Statement) (i : ℕ) (d : Statement) → i < length ss → statement_weight (statement_in t (get_or ss i d)) < statements_weight (statements_in t ss)
lighter t [] i d lt = absurd (omega arith)
lighter t (s ∷ ss) zero d lt = omega arith
lighter t (s ∷ ss) (suc i) d lt = let h = lighter t ss i d (omega arith) in omega arith

pub one_lighter : (t : Table) (ss : List Statement) (i : ℕ) (s : Statement) → i < length ss → s ≡ get_or ss i s → statement_weight (statement_in t s) < statements_weight (statements_in t ss)
one_lighter t ss i s lt is = subst (λ (x : Statement). statement_weight (statement_in t x) < statements_weight (statements_in t ss)) (sym is) (lighter t ss i s lt)

-- ---- values of globals

lighter_value : (xs : List Initial) (i : ℕ) (d : Initial) → i < length xs → initial_weight (initial_in (get_or xs i d)) < initials_weight (initials_in xs)
lighter_value [] i d lt = absurd (omega arith)
lighter_value (x ∷ xs) zero d lt = omega arith
lighter_value (x ∷ xs) (suc i) d lt = let h = lighter_value xs i d (omega arith) in omega arith

pub one_lighter_value : (xs : List Initial) (i : ℕ) (x : Initial) → i < length xs → x ≡ get_or xs i x → initial_weight (initial_in x) < initials_weight (initials_in xs)
one_lighter_value xs i x lt is = subst (λ (y : Initial). initial_weight (initial_in y) < initials_weight (initials_in xs)) (sym is) (lighter_value xs i x lt)

row_is_list : {m : Count} (xs : Row_of-Initial m) → row_in xs ≡ initials_in (items-the_row-Initial m xs)
row_is_list end_of-Initial = refl
row_is_list (more_of-Initial x xs) = ap (initials.MoreInitials (initial_in x)) (row_is_list xs)

pub listed_means : (v : Vec Initial Global) → initial_in (Listed v) ≡ initials.Listed (initials_in v.items)
listed_means v = search (rules, the_lemmas, row_is_list)

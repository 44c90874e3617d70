-- How many parts the value of a global has, and one of several values.
use Rattle.std.proofs.Common.{◌≡◌, ℕ, zero, suc, ◌+◌, ◌<◌, List, [], ◌∷◌, length, drop, get_or, add-one, Vec, Global, refl, sym, ap, ◌∙◌, subst, rules, arith}
use Rattle.std.proofs.Math.Seq.{drop-cons}
use mathlib.Core.Former.{Count}
use Rattle.c_types_rules.specs.Initials as initials
use Rattle.c_types_program.specs.declared.global.Initial.{Initial, Row_of-Initial, end_of-Initial, more_of-Initial, items-the_row-Initial}
use Rattle.c_types_program.specs.declared.global.Initial.TheVariants.{Listed}
use Rattle.c_types_program.specs.declared.global.Initial.TheViews.{the_lemmas}
use Rattle.c_types_program.specs.Declarations.{initial_in, initials_in, row_in}

abbrev mutual
  pub initial_weight : initials.Initial → ℕ
  initial_weight (initials.Scalar k) = 5
  initial_weight (initials.Bytes bytes) = 5
  initial_weight (initials.Listed xs) = 5 + initials_weight xs

  pub initials_weight : initials.Initials → ℕ
  initials_weight initials.NoInitials = 1
  initials_weight (initials.MoreInitials x xs) = 3 + (initial_weight x + initials_weight xs)

-- those from a place on
pub one_more : {A : Type 0} (xs : List A) (i : ℕ) (x : A) → i < length xs → x ≡ get_or xs i x → drop i xs ≡ x ∷ drop (i + 1) xs
one_more {A} xs i x lt is =
    drop-cons xs i x lt ∙ (ap (λ (y : A). y ∷ drop (suc i) xs) (sym is) ∙ ap (λ (n : ℕ). x ∷ drop n xs) (sym (add-one i)))

lighter : (xs : List Initial) (i : ℕ) (d : Initial) → i < length xs → initial_weight (initial_in (get_or xs i d)) + 3 < initials_weight (initials_in xs)
lighter [] i d lt = absurd (omega arith)
lighter (x ∷ xs) zero d lt = let some : 0 < initials_weight (initials_in xs) = has_weight (initials_in xs) in omega arith
  where
    has_weight : (ys : initials.Initials) → 0 < initials_weight ys
    has_weight initials.NoInitials = omega arith
    has_weight (initials.MoreInitials y ys) = omega arith
lighter (x ∷ xs) (suc i) d lt = let h = lighter xs i d (omega arith) in omega arith

-- one of several values has fewer parts
pub one_lighter : (xs : List Initial) (i : ℕ) (x : Initial) → i < length xs → x ≡ get_or xs i x → initial_weight (initial_in x) + 3 < initials_weight (initials_in xs)
one_lighter xs i x lt is = subst (λ (y : Initial). initial_weight (initial_in y) + 3 < initials_weight (initials_in xs)) (sym is) (lighter xs i x lt)

row_is_list : {m : Count} (xs : Row_of-Initial m) → row_in xs ≡ initials_in (items-the_row-Initial m xs)
row_is_list end_of-Initial = refl
row_is_list (more_of-Initial x xs) = ap (initials.MoreInitials (initial_in x)) (row_is_list xs)

-- what a listed value stands for, by the list of its parts
pub listed_means : (v : Vec Initial Global) → initial_in (Listed v) ≡ initials.Listed (initials_in v.items)
listed_means v = search (rules, the_lemmas, row_is_list)

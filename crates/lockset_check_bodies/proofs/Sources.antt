-- What is found in functions and globals, one after another.
use Rattle.std.proofs.Common.{◌≡◌, ℕ, ◌+◌, ◌<◌, List, [], ◌++◌, None, length, map, drop, add-one, append-nil, sym, ap, ◌∙◌, arith}
use Rattle.std.proofs.Math.Seq.{drop-cons}
use Rattle.std.proofs.lemmas.List.{drop_all}
use Rattle.std.specs.Prelude.{◌||◌, is_some}
use Rattle.c_types_nodes.specs.Tables.{Table}
use Rattle.c_types_program.specs.declared.global.Global.{Global}
use Rattle.c_types_program.specs.Declarations.{global_in}
use Rattle.lockset_check_rules.specs.declared.finding.LockFinding.{LockFinding}
use Rattle.lockset_check_rules.specs.Guards.{Guarded}
use Rattle.lockset_check_rules.specs.Sources.{is_any_guarded}

some_global : Global
some_global = record { name = []; ty = record { 0 = 0 }; value = None; unevaluated = [] }

-- of the globals from a place on
pub any_at : (r : Guarded) (t : Table) (gs : List Global) (i : ℕ) → i < length gs →
    is_any_guarded r i (map (global_in t) (drop i gs)) ≡ (is_some (r.guard i) || is_any_guarded r (i + 1) (map (global_in t) (drop (i + 1) gs)))
any_at r t gs i lt =
    ap (λ (xs : List Global). is_any_guarded r i (map (global_in t) xs)) (drop-cons gs i some_global lt)
    ∙ ap (λ (n : ℕ). is_some (r.guard i) || is_any_guarded r n (map (global_in t) (drop n gs))) (sym (add-one i))

-- a list that is left, in which nothing is found at its end
module _ {A : Type 0} (found : List A → List LockFinding) (ends : found [] ≡ []) where
  pub at_end : (xs : List A) (i : ℕ) (before all : List LockFinding) → length xs < i + 1 → before ++ found (drop i xs) ≡ all → before ≡ all
  at_end xs i before all past e =
      sym (append-nil before) ∙ (ap (λ (l : List LockFinding). before ++ l) (sym (ap found (drop_all i xs (omega arith)) ∙ ends)) ∙ e)

-- Threads that may step.
use Rattle.std.proofs.Common.{◌≡◌, ℕ, Bool, true, false, cond, List, [], ◌∷◌, Option, Some, None, refl, sym, ap, ◌∙◌, subst, eqb, arith}
use Rattle.std.specs.List.{find, slice_get}
use Rattle.std.proofs.lemmas.Bool.Decides.{nat_tests}
use Rattle.system_side.specs.declared.threads.Standing.{Standing}
use Rattle.system_side.specs.declared.threads.Standing.TheVariants.{Ready, Waits, Ended}
use Rattle.system_side.specs.Threads.{has_not_ended, holds_of, is_ready, is_running, may_step, order_of}

found_by : (p : ℕ → Bool) (b : Bool) (x t : ℕ) (rest : Option ℕ) → p x ≡ b → cond b (Some x) rest ≡ Some t → (rest ≡ Some t → p t ≡ true) → p t ≡ true
found_by p true x t rest is e more = let same : x ≡ t = cc in subst (λ n. p n ≡ true) same is
found_by p false x t rest is e more = more e

-- what is found passes the test
pub found_passes : (p : ℕ → Bool) (xs : List ℕ) (t : ℕ) → find p xs ≡ Some t → p t ≡ true
found_passes p [] t e = absurd cc
found_passes p (x ∷ xs) t e = found_by p (p x) x t (find p xs) refl e (found_passes p xs t)

-- a thread that may step hasn't ended
pub ready_runs : (s : Option Standing) → holds_of may_step s ≡ true → holds_of is_running s ≡ true
ready_runs None e = absurd cc
ready_runs (Some Ready) e = refl
ready_runs (Some (Waits wait)) e = absurd cc
ready_runs (Some (Ended value)) e = absurd cc

is_same : (a b : ℕ) → eqb a b ≡ true → a ≡ b
is_same a b e = grind (arith, nat_tests)

-- a thread that is picked where it is wished for hasn't ended
pub may_run : (threads : List Standing) (picked thread : ℕ) → Some picked ≡ find (is_ready threads) (order_of thread) → eqb picked thread ≡ true → has_not_ended threads thread ≡ true
may_run threads picked thread found same =
    ready_runs (slice_get threads thread) (found_passes (is_ready threads) (order_of thread) thread (sym found ∙ ap Some (is_same picked thread same)))

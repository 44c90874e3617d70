-- What calls are given.
use Rattle.std.proofs.Common.{◌≡◌, ℕ, zero, suc, ◌+◌, Bool, true, false, cond, eqb, List, [], ◌∷◌, drop, Some, None, refl, sym, ap, ◌∙◌, arith}
use Rattle.std.specs.Prelude.{◌==◌, filter, slice_get, unwrap_or}
use Rattle.marks.specs.Marks.{Mark}
use Rattle.c_builtins.specs.declared.builtin.Builtin.{Builtin}
use Rattle.c_builtins.specs.declared.builtin.Builtin.TheVariants as builtins
use Rattle.c_code.specs.Machine.{first}
use Rattle.system_side.specs.declared.file.Scripted.{Scripted}
use Rattle.whole_runs.specs.World.{World}
use Rattle.whole_runs.specs.Outcomes.{minus_one, started, used}
use Rattle.whole_runs.specs.Threads.{result_of}
use Rattle.whole_runs.specs.Picks.{is_other}
use Rattle.whole_runs.specs.Below.{given_by}
use Rattle.reference_recorder_marks.specs.declared.mark.Mark.{Mark as Marked}
use Rattle.reference_recorder_marks.specs.Marks.{past}
use Rattle.reference_recorder_outcomes.proofs.Origins.{same_started, same_used}
use Rattle.reference_recorder_threads.specs.Telling.{IsPast}
use Rattle.reference_recorder_picks.specs.Picks.{other_of}
use Rattle.reference_recorder_picks.proofs.Picking.{is_other_by, which_other}
use Rattle.reference_recorder_given.specs.Given.{answered_with, given_by_builtin}

-- a builtin is given what its first argument says, whatever its number
pub gives_is : (w : World) (run : List Mark) (t f : ℕ) (args : List ℕ) (b : Builtin) →
    given_by_builtin w run t (first args) b ≡ given_by w run t f args (Some b)
gives_is w run t f args builtins.Malloc = refl
gives_is w run t f args builtins.Free = refl
gives_is w run t f args builtins.Spawn = refl
gives_is w run t f args builtins.Join = refl
gives_is w run t f args builtins.Lock = refl
gives_is w run t f args builtins.Unlock = refl
gives_is w run t f args builtins.Print = refl

-- what the marks say, the run says
module _ (w : World) (marks : List Marked) (p : IsPast w marks) where
  pub started_is : started (past marks) ≡ started p.run
  started_is = ap started (sym p.same) ∙ same_started p.run

  pub answers_are : (f : ℕ) → answered_with w.file.answers f (used f (past marks)) ≡ answered_with w.file.answers f (used f p.run)
  answers_are f = ap (answered_with w.file.answers f) (ap (used f) (sym p.same) ∙ same_used f p.run)

-- ---- other threads

-- what one is given that joins the thread with a number
abbrev pub join_gives : World → List Mark → (thread number : ℕ) → ℕ
join_gives w run t k = cond (is_other run t k) (unwrap_or (result_of w run k) 0) minus_one

pub joins : (w : World) (run : List Mark) (t k u v : ℕ) → Some u ≡ other_of run t k → v ≡ unwrap_or (result_of w run u) 0 → v ≡ join_gives w run t k
joins w run t k u v found gave =
    gave ∙ (ap (λ i. unwrap_or (result_of w run i) 0) (which_other run t k u (sym found))
    ∙ ap (λ b. cond b (unwrap_or (result_of w run k) 0) minus_one) (sym (is_other_by run t k (Some u) (sym found))))

pub joins_none : (w : World) (run : List Mark) (t k : ℕ) → None ≡ other_of run t k → minus_one ≡ join_gives w run t k
joins_none w run t k found = ap (λ b. cond b (unwrap_or (result_of w run k) 0) minus_one) (sym (is_other_by run t k None (sym found)))

-- ---- the answers of a function

abbrev pub of_func : (func : ℕ) → List Scripted → List Scripted
of_func f answers = filter (λ (a : Scripted). a.func == f) answers

-- those from one place on
one_answer : (f : ℕ) (answers : List Scripted) (i : ℕ) (a : Scripted) (b : Bool) → slice_get answers i ≡ Some a → eqb a.func f ≡ b →
    of_func f (drop i answers) ≡ cond b (a ∷ of_func f (drop (suc i) answers)) (of_func f (drop (suc i) answers))
one_answer f [] i a b is e = absurd cc
one_answer f (x ∷ xs) zero a b is e =
    let same : x ≡ a = cc in
    ap (λ (y : Scripted). cond (eqb y.func f) (y ∷ of_func f xs) (of_func f xs)) same ∙ ap (λ c. cond c (a ∷ of_func f xs) (of_func f xs)) e
one_answer f (x ∷ xs) (suc i) a b is e = one_answer f xs i a b is e

module _ (f : ℕ) (answers : List Scripted) (i n : ℕ) (a : Scripted) (is : slice_get answers i ≡ Some a) where
  -- it is one of another function
  pub passed_other : (left : ℕ) → eqb a.func f ≡ false → slice_get (of_func f answers) n ≡ slice_get (of_func f (drop i answers)) left →
      slice_get (of_func f answers) n ≡ slice_get (of_func f (drop (i + 1) answers)) left
  passed_other left e so_far =
      let next : suc i ≡ i + 1 = omega arith in
      so_far ∙ (ap (λ xs. slice_get xs left) (one_answer f answers i a false is e) ∙ ap (λ k. slice_get (of_func f (drop k answers)) left) next)

  -- it is the one that is asked for
  pub found_answer : eqb a.func f ≡ true → slice_get (of_func f answers) n ≡ slice_get (of_func f (drop i answers)) 0 →
      Some a ≡ slice_get (of_func f answers) n
  found_answer e so_far = sym (so_far ∙ ap (λ xs. slice_get xs 0) (one_answer f answers i a true is e))

  -- it is an earlier one
  pub passed_one : (left : ℕ) → eqb a.func f ≡ true → slice_get (of_func f answers) n ≡ slice_get (of_func f (drop i answers)) (suc left) →
      slice_get (of_func f answers) n ≡ slice_get (of_func f (drop (i + 1) answers)) left
  passed_one left e so_far =
      let next : suc i ≡ i + 1 = omega arith in
      so_far ∙ (ap (λ xs. slice_get xs (suc left)) (one_answer f answers i a true is e) ∙ ap (λ k. slice_get (of_func f (drop k answers)) left) next)

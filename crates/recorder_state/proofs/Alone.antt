-- The only thread of a run makes its next step.
use Rattle.std.proofs.Common.{◌≡◌, ◌≢◌, ℕ, zero, suc, ◌<◌, Bool, true, false, cond, List, [], ◌∷◌, ◌++◌, length, Some, None, refl, sym, ap, ◌∙◌, subst, arith}
use Rattle.std.specs.Prelude.{find, is_some, ◌&&◌, ◌-◌}
use Rattle.std.specs.List.{list_all, range_with_len}
use Rattle.marks.specs.declared.side.Side.{Side}
use Rattle.marks.specs.Marks.{Mark}
use Rattle.system_side.specs.Schedule.{wish_at}
use Rattle.system_side.specs.Threads.{order_of}
use Rattle.whole_runs.specs.World.{World}
use Rattle.whole_runs.specs.Outcomes.{started}
use Rattle.whole_runs.specs.Threads.{comes, ended_with, has_ended, result_of}
use Rattle.whole_runs.specs.Picks.{all_ended, asked, can_step, is_unblocked, may_go_on, stepping}
use Rattle.recorder_system.proofs.Standing.{can_by, can_started}
use Rattle.recorder_threads.specs.declared.wants.Next.TheVariants as next
use Rattle.recorder_threads.specs.declared.wants.Want.{Want as Told}
use Rattle.recorder_threads.specs.Threads.{IsNextOf, args_at}
use Rattle.recorder_threads.specs.Wants.{WantsTold}
use Rattle.recorder_threads.proofs.Places.{count_is}
use Rattle.recorder_state.specs.declared.known.Known.{Known}
use Rattle.recorder_state.specs.declared.state.RunState.{RunState}
use Rattle.recorder_state.specs.Stands.{IsKnown, IsReached}
use Rattle.recorder_state.specs.Turns.{IsAtStep, asked_func}
use Rattle.recorder_state.proofs.Going.{in_budget}
use Rattle.recorder_state.proofs.Tried.{not_asked}

-- ---- it is picked

found_alone : (p : ℕ → Bool) (xs ys : List ℕ) → ((u : ℕ) → p u ≡ true → u ≡ 0) → p 0 ≡ true → find p (xs ++ 0 ∷ ys) ≡ Some 0
found_alone p [] ys only is = ap (λ b. cond b (Some 0) (find p ys)) is
found_alone p (x ∷ xs) ys only is = by (p x) refl (found_alone p xs ys only is)
  where
    by : (b : Bool) → p x ≡ b → find p (xs ++ 0 ∷ ys) ≡ Some 0 → cond b (Some x) (find p (xs ++ 0 ∷ ys)) ≡ Some 0
    by true e h = ap Some (only x e)
    by false e h = h

module _ (w : World) (past : List Mark) (one : started past ≡ 1) where
  only : (u : ℕ) → can_step w past u ≡ true → u ≡ 0
  only u can = let lt = can_started w past u can in omega (arith, lt, one)

  alone_steps : can_step w past 0 ≡ true → stepping w past ≡ Some 0
  alone_steps can = by (wish_at w.file.schedule (length past))
    where
      by : (wish : ℕ) → find (can_step w past) (order_of wish) ≡ Some 0
      by zero = ap (λ b. cond b (Some 0) (find (can_step w past) (range_with_len 1 31 ++ []))) can
      by (suc n) = found_alone (can_step w past) (range_with_len (suc n) (32 - suc n)) (range_with_len 1 n) only can

  alone_runs : result_of w past 0 ≡ None → all_ended w past ≡ false
  alone_runs none = ap (λ k. list_all (has_ended w past) (range_with_len 0 k)) one ∙ ap (λ o. is_some o && true) none

-- ---- its step is the next one

module _ (w : World) (s : RunState) (r : IsReached w s) (one : length s.threads ≡ 1) where
  abbrev past : List Mark
  past = r.past

  many : started past ≡ 1
  many = sym (count_is w past s.threads r.around.shown.threads) ∙ one

  pub at_step : (side : Side) (said : Told) (n : WantsTold w.laid (args_at s.threads 0) side said (comes w past 0)) → asked n.want ≡ None → s.steps < w.file.budget → IsAtStep w s 0 side said
  at_step side said n none few = record {
    reached = r;
    step = record {
      goes_on = record {
        running = alone_runs w past many (ap ended_with n.wants);
        in_budget = let e = r.steps in omega (arith, e, few);
      };
      thread = 0;
      picked = alone_steps w past many (can_by w past 0 (omega (arith, many)) ∙ (ap (may_go_on w past 0) n.wants ∙ ap (is_unblocked w past 0) none));
      side = side;
      want = n.want;
      to = n.to;
      comes_is = n.wants;
    };
    thread = refl;
    side_is = refl;
    told = n.is_told;
  }

  -- where its code is known to come to what waits for no result
  pub at_known : (k : Known) (side : Side) (said : Told) → s.known ≡ Some k → k.next ≡ next.Wants side said → asked_func said ≡ None → s.steps ≢ w.file.budget → IsAtStep w s 0 side said
  at_known k side said is wants none short =
      let known : (k.thread < length s.threads) × IsNextOf w.laid s.threads k.thread k.next = subst (IsKnown w.laid s.threads) is r.known in
      let first : k.thread ≡ 0 = let lt = known.0 in omega (arith, lt, one) in
      let there : IsNextOf w.laid s.threads 0 k.next = subst (λ t. IsNextOf w.laid s.threads t k.next) first known.1 in
      let here : IsNextOf w.laid s.threads 0 (next.Wants side said) = subst (IsNextOf w.laid s.threads 0) wants there in
      let n : WantsTold w.laid (args_at s.threads 0) side said (comes w past 0) = here w past refl r.around.shown.threads in
      let le = in_budget w past r.follows in
      let count = r.steps in
      at_step side said n (not_asked w.laid (args_at s.threads 0) n.want said n.is_told none) (omega (arith, le, count, short))

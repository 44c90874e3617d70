-- What a mark of a run leaves of the other threads, and what it starts.
use Rattle.std.proofs.Common.{◌≡◌, ◌≢◌, ℕ, zero, suc, ◌<◌, ◌≤◌, Bool, true, false, cond, eqb, List, [], ◌∷◌, length, Option, Some, None, refl, sym, ap, ◌∙◌, subst, arith, eqb-true, eq-eqb}
use Rattle.std.specs.Prelude.{filter}
use Rattle.marks.specs.Marks.{Mark}
use Rattle.marks.specs.Opens.{tail}
use Rattle.c_code.specs.Machine.{Starting, callee, first}
use Rattle.c_code.specs.Valid.{start_sig}
use Rattle.whole_runs.specs.World.{World}
use Rattle.whole_runs.specs.Sides.{own}
use Rattle.whole_runs.specs.Outcomes.{Outcome, act_outcome, args_of, outcomes, is_start, started}
use Rattle.whole_runs.specs.Threads.{beginning}
use Rattle.whole_runs.specs.Ends.{Follows}
use Rattle.whole_runs.specs.Fits.{IsFitCode}
use Rattle.whole_runs_threads.specs.Laws.{BeginningsStay, OtherMarksStartNone, OtherMarksStay, StartsAreNumbered}
use Rattle.whole_runs_seen.proofs.Outcomes.{Numbered, start_of, same_start, new_start, more_starts, no_more_start, one_more_start}
use Rattle.whole_runs_seen.proofs.Threads.{threads_known, picked_started}

abbrev cons_all : Option Outcome → List Outcome → List Outcome
cons_all None os = os
cons_all (Some o) os = o ∷ os

-- ---- own marks

pub own_same : (w : World) (past : List Mark) (m : Mark) (t : ℕ) → m.thread ≢ t → own w t (m ∷ past) ≡ own w t past
own_same w past m t n = go (eqb m.thread t) refl
  where
    go : (b : Bool) → eqb m.thread t ≡ b → cond b (m ∷ own w t past) (own w t past) ≡ own w t past
    go true e = absurd (n (eqb-true m.thread t e))
    go false e = refl

pub own_more : (w : World) (past : List Mark) (m : Mark) (t : ℕ) → m.thread ≡ t → own w t (m ∷ past) ≡ m ∷ own w t past
own_more w past m t e = ap (λ b. cond b (m ∷ own w t past) (own w t past)) (eq-eqb m.thread t e)

-- ---- starts

outcomes_now : (past : List Mark) (m : Mark) (o : Option Outcome) → act_outcome m.thread m.act ≡ o → outcomes (m ∷ past) ≡ cons_all o (outcomes past)
outcomes_now past m o e = ap (λ x. cons_all x (outcomes past)) e

pub same_beginning : (w : World) (past : List Mark) (m : Mark) (t : ℕ) → start_of t (outcomes (m ∷ past)) ≡ start_of t (outcomes past) → beginning w (m ∷ past) t ≡ beginning w past t
same_beginning w past m zero e = refl
same_beginning w past m (suc t) e = ap (λ o. Starting (callee w.laid start_sig (first (args_of o))) (tail (args_of o))) e

kept_start : (past : List Mark) (m : Mark) (t : ℕ) → Numbered (outcomes (m ∷ past)) → t < started past → start_of t (outcomes (m ∷ past)) ≡ start_of t (outcomes past)
kept_start past m t numbered lt = by (act_outcome m.thread m.act) refl
  where
    by : (o : Option Outcome) → act_outcome m.thread m.act ≡ o → start_of t (outcomes (m ∷ past)) ≡ start_of t (outcomes past)
    by None e = ap (start_of t) (outcomes_now past m None e)
    by (Some o) e =
        let now = outcomes_now past m (Some o) e in
        ap (start_of t) now ∙ same_start o (outcomes past) t (subst Numbered now numbered).0 lt

-- no fewer threads after a mark
pub started_on : (past : List Mark) (m : Mark) → started past ≤ started (m ∷ past)
started_on past m = by (act_outcome m.thread m.act) refl
  where
    by : (o : Option Outcome) → act_outcome m.thread m.act ≡ o → started past ≤ started (m ∷ past)
    by None e = let k : started (m ∷ past) ≡ started past = ap (λ os. suc (length (filter is_start os))) (outcomes_now past m None e) in omega (arith, k)
    by (Some o) e =
        let k : started (m ∷ past) ≡ suc (length (filter is_start (o ∷ outcomes past))) = ap (λ os. suc (length (filter is_start os))) (outcomes_now past m (Some o) e) in
        let le = more_starts o (outcomes past) in
        omega (arith, k, le)

module _ (w : World) (code : IsFitCode w.laid) (past : List Mark) (m : Mark) (f : Follows w (m ∷ past)) where
  numbered : Numbered (outcomes (m ∷ past))
  numbered = (threads_known w code (m ∷ past) f).numbered

  pub beginning_stays : (t : ℕ) → t < started past → beginning w (m ∷ past) t ≡ beginning w past t
  beginning_stays t lt = same_beginning w past m t (kept_start past m t numbered lt)

  pub thread_started : m.thread < started past
  thread_started = subst (λ t. t < started past) (sym f.0.made.mark.of_thread) (picked_started w code past (threads_known w code past f.1) f.0.step)

  -- a mark that starts a thread gives its number
  module _ (o : Outcome) (comes : act_outcome m.thread m.act ≡ Some o) (starts : is_start o ≡ true) where
    now : outcomes (m ∷ past) ≡ o ∷ outcomes past
    now = outcomes_now past m (Some o) comes

    pub one_more : started (m ∷ past) ≡ suc (started past)
    one_more = ap (λ os. suc (length (filter is_start os))) now ∙ ap suc (one_more_start o (outcomes past) starts)

    pub numbered_so : o.result ≡ started past
    numbered_so = (subst Numbered now numbered).0 starts

    pub start_is : start_of (started past) (outcomes (m ∷ past)) ≡ Some o
    start_is = ap (start_of (started past)) now ∙ new_start o (outcomes past) (started past) starts numbered_so

    pub begins_with : (t : ℕ) → t ≡ started past → beginning w (m ∷ past) t ≡ Starting (callee w.laid start_sig (first o.args)) (tail o.args)
    begins_with zero e = absurd (omega (arith, e))
    begins_with (suc t) e = ap (λ s. Starting (callee w.laid start_sig (first (args_of s))) (tail (args_of s))) (ap (λ u. start_of u (outcomes (m ∷ past))) e ∙ start_is)

  pub silent_before : own w (started past) (m ∷ past) ≡ []
  silent_before =
      let lt = thread_started in
      own_same w past m (started past) (λ e. omega (arith, lt, e)) ∙ (threads_known w code past f.1).silent (started past) (omega arith)

pub other_marks : (w : World) → OtherMarksStay w
other_marks w past m t n = own_same w past m t n

pub beginnings : (w : World) → BeginningsStay w
beginnings w fit past m f t lt = beginning_stays w fit.code past m f t lt

pub start_none : OtherMarksStartNone
start_none past m none = by (act_outcome m.thread m.act) refl
  where
    by : (o : Option Outcome) → act_outcome m.thread m.act ≡ o → started (m ∷ past) ≡ started past
    by None e = ap (λ os. suc (length (filter is_start os))) (outcomes_now past m None e)
    by (Some o) e = ap (λ os. suc (length (filter is_start os))) (outcomes_now past m (Some o) e) ∙ ap suc (no_more_start o (outcomes past) (none o e))

pub start_numbered : (w : World) → StartsAreNumbered w
start_numbered w fit past m f o comes starts = (one_more w fit.code past m f o comes starts, numbered_so w fit.code past m f o comes starts)

-- After each step of a run each thread keeps to the modes.
use Rattle.std.proofs.Common.{◌≡◌, ℕ, zero, suc, ◌<◌, ◌≤◌, Bool, true, false, cond, eqb, ltb, List, [], ◌∷◌, Option, Some, None, refl, sym, ap, ◌∙◌, subst, arith, eqb-true}
use Rattle.std.specs.Prelude.{reverse}
use Rattle.std.proofs.lemmas.Bool.{ltb-true, ltb-false}
use Rattle.marks.specs.declared.side.Side.{Side}
use Rattle.marks.specs.Marks.{Mark}
use Rattle.marks.specs.Opens.{tail}
use Rattle.c_code.specs.Machine.{Starting, callee, first}
use Rattle.c_code.specs.MarkLists.{Split}
use Rattle.c_code.specs.Valid.{start_sig}
use Rattle.cut_graph_reached.specs.Answers.{ModesKept}
use Rattle.whole_runs.specs.World.{World, may_run}
use Rattle.whole_runs.specs.Sides.{own}
use Rattle.whole_runs.specs.Outcomes.{Outcome, act_outcome, args_of, outcomes, started}
use Rattle.whole_runs.specs.Threads.{beginning, comes}
use Rattle.whole_runs.specs.Steps.{Picked, IsMade}
use Rattle.whole_runs.specs.Ends.{Follows}
use Rattle.whole_runs.specs.Fits.{IsFitCode}
use Rattle.whole_runs_seen.proofs.Outcomes.{Numbered, same_start, start_of, starts}
use Rattle.whole_runs_seen.proofs.Threads.{AreThreads, picked_started, threads_known}
use Rattle.whole_runs_cuts.specs.Laws.{thread_of}
use Rattle.whole_runs_cuts.proofs.Along.{AllKept, all_kept}
use Rattle.whole_runs_cuts.proofs.Tested.{KeptAt, step_kept}

abbrev with_outcome : Option Outcome → List Outcome → List Outcome
with_outcome None os = os
with_outcome (Some o) os = o ∷ os

-- a thread that was started keeps what it was started with
start_stays : (o : Option Outcome) (os : List Outcome) (t : ℕ) → Numbered (with_outcome o os) → t < suc (starts os) → start_of t (with_outcome o os) ≡ start_of t os
start_stays None os t n lt = refl
start_stays (Some o) os t n lt = same_start o os t n.0 lt

module _ (w : World) where
  abbrev may : Side → ℕ → Type 0
  may side f = may_run w.laid.placed side f ≡ true

  begins_alike : (past : List Mark) (m : Mark) (t : ℕ) → AreThreads w (m ∷ past) → t < started past → beginning w (m ∷ past) t ≡ beginning w past t
  begins_alike past m zero known lt = refl
  begins_alike past m (suc t) known lt = ap (λ xs. Starting (callee w.laid start_sig (first xs)) (tail xs)) (ap args_of (by (act_outcome m.thread m.act) refl))
    where
      by : (o : Option Outcome) → act_outcome m.thread m.act ≡ o → start_of (suc t) (outcomes (m ∷ past)) ≡ start_of (suc t) (outcomes past)
      by o e =
          let now : outcomes (m ∷ past) ≡ with_outcome o (outcomes past) = ap (λ x. with_outcome x (outcomes past)) e in
          ap (start_of (suc t)) now ∙ start_stays o (outcomes past) (suc t) (subst Numbered now known.numbered) lt

  module _ (code : IsFitCode w.laid) where
    abbrev Kept : List Mark → ℕ → Type 0
    Kept past t = AllKept Split w.laid (beginning w past t) may (own w t past)

    module _ (past : List Mark) (known : AreThreads w past) (s : Picked w past) (m : Mark) (made : IsMade w past s m) where
      of_thread : m.thread < started past
      of_thread = subst (λ t. t < started past) (sym made.mark.of_thread) (picked_started w code past known s)

      -- one that was started goes on
      older : (t : ℕ) → AreThreads w (m ∷ past) → t < started past → Kept past t → Kept (m ∷ past) t
      older t now lt kept = subst (λ c. AllKept Split w.laid c may (own w t (m ∷ past))) (sym (begins_alike past m t now lt)) (by (eqb m.thread t) refl)
        where
          by : (b : Bool) → eqb m.thread t ≡ b → AllKept Split w.laid (beginning w past t) may (cond b (m ∷ own w t past) (own w t past))
          by false e = kept
          by true e =
              let here : s.thread ≡ t = sym made.mark.of_thread ∙ eqb-true m.thread t e in
              (subst (λ u. KeptAt may (comes w past u) m) here (step_kept w code past known s m made), kept)

      -- one that wasn't has no marks
      newer : (t : ℕ) → started past ≤ t → Kept (m ∷ past) t
      newer t le = subst (AllKept Split w.laid (beginning w (m ∷ past) t) may) (sym none) tt
        where
          none : own w t (m ∷ past) ≡ []
          none = by (eqb m.thread t) refl
            where
              by : (b : Bool) → eqb m.thread t ≡ b → cond b (m ∷ own w t past) (own w t past) ≡ []
              by true e = let k = of_thread in let same = eqb-true m.thread t e in absurd (omega (arith, k, le, same))
              by false e = known.silent t le

    marks_kept : (past : List Mark) → Follows w past → (t : ℕ) → Kept past t
    marks_kept [] f t = tt
    marks_kept (m ∷ past) f t = by (marks_kept past f.1 t) (ltb t (started past)) refl
      where
        known : AreThreads w past
        known = threads_known w code past f.1

        by : Kept past t → (b : Bool) → ltb t (started past) ≡ b → Kept (m ∷ past) t
        by kept true e = older past known f.0.step m f.0.made t (threads_known w code (m ∷ past) f) (ltb-true _ _ e) kept
        by kept false e = newer past known f.0.step m f.0.made t (ltb-false _ _ e)

    pub modes_kept : (past : List Mark) → Follows w past → (t : ℕ) → t < started past → ModesKept may (thread_of w past t) (reverse (own w t past))
    modes_kept past f t lt = all_kept Split w.laid (beginning w past t) may (own w t past) ((threads_known w code past f).go_on t lt) (marks_kept past f t)

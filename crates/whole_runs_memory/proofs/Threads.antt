-- The threads of a whole run.
use Rattle.std.proofs.Common.{◌≡◌, ℕ, zero, suc, ◌<◌, ◌≤◌, true, ltb, List, [], ◌∷◌, None, inl, inr, refl, ap, sym, ◌∙◌, subst, arith}
use Rattle.std.specs.Prelude.{slice_get}
use Rattle.std.proofs.lemmas.Bool.{cases_lt, cond-true, true≢false, lt-ltb}
use Rattle.marks.specs.Places.{thread_count, builtin_count}
use Rattle.marks.specs.Marks.{Mark}
use Rattle.marks.specs.Wants.{Returns}
use Rattle.c_code.specs.declared.code.FuncInfo.{FuncInfo}
use Rattle.c_code.specs.Builtins.{Prototype, prototypes, AreBuiltins}
use Rattle.c_code.specs.Machine.{Laid, Config, entry_of, entry}
use Rattle.c_code.specs.MarkLists.{Split, has_entry}
use Rattle.c_code.specs.Opens.{AreAnswers}
use Rattle.c_code.specs.Valid.{IsValid}
use Rattle.whole_runs.specs.World.{World}
use Rattle.whole_runs.specs.Sides.{own}
use Rattle.whole_runs.specs.Outcomes.{started}
use Rattle.whole_runs.specs.Threads.{beginning}
use Rattle.whole_runs.specs.Steps.{Picked}
use Rattle.whole_runs.specs.Ends.{Follows}
use Rattle.whole_runs.specs.Fits.{IsFitCode}
use Rattle.whole_runs_seen.proofs.Answered.{AllGoOn}
use Rattle.whole_runs_seen.proofs.Entries.{IsOwn}
use Rattle.whole_runs_seen.proofs.Threads.{picked_started, own_want, threads_known}
use Rattle.whole_runs_memory.specs.Threads.{ReturnsAreFromSource, ThreadsAreFew, ThreadsAnswerTheirCode}

-- ---- runs

-- what has a body is no builtin
bodiless : (fs : List FuncInfo) (ps : List Prototype) → AreBuiltins fs ps → (f : ℕ) → entry_of (slice_get fs f) ≡ None
bodiless [] ps h zero = refl
bodiless [] ps h (suc f) = refl
bodiless (g ∷ fs) [] h f = absurd h
bodiless (g ∷ fs) (p ∷ ps) h zero = h.0.no_body
bodiless (g ∷ fs) (p ∷ ps) h (suc f) = bodiless fs ps h.1 f

of_source : (l : Laid) → IsValid l.code → (f : ℕ) → has_entry (entry l f) ≡ true → builtin_count ≤ f
of_source l valid f body = elim (cases_lt f builtin_count) [
  | inr le ↦ le
  | inl lt ↦ absurd (true≢false (sym body ∙ ap (λ o. has_entry (entry_of o))
      (cond-true (ltb f builtin_count) (slice_get l.code.builtins f) _ (lt-ltb f builtin_count lt)) ∙ ap has_entry
      (bodiless l.code.builtins prototypes valid.builtins f)))
]

all_answer : (l : Laid) (c : Config) (past : List Mark) → AllGoOn Split l c past → AreAnswers Split l c past
all_answer l c [] h = tt
all_answer l c (m ∷ past) h = (inl h.0.wanted, all_answer l c past h.1)

module _ (w : World) (code : IsFitCode w.laid) where
  source : (past : List Mark) → Follows w past → (s : Picked w past) (f : ℕ) (args : List ℕ) (v : ℕ) → s.want ≡ Returns f args v → builtin_count ≤ f
  source past follows s f args v is = of_source w.laid code.valid f (subst (IsOwn w.laid s.side) is (own_want w code past (threads_known w code past follows) s)).1

  pub few_threads : (past : List Mark) → Follows w past → started past ≤ thread_count
  few_threads past follows = (threads_known w code past follows).few

  -- the thread of a mark is one of them
  pub small_thread : (past : List Mark) (m : Mark) → Follows w (m ∷ past) → m.thread < thread_count
  small_thread past m follows =
      let lt = picked_started w code past (threads_known w code past follows.1) follows.0.step in
      let le = few_threads past follows.1 in
      let same = follows.0.made.mark.of_thread in
      omega (arith, lt, le, same)

  pub own_answers : (past : List Mark) (t : ℕ) → Follows w past → AreAnswers Split w.laid (beginning w past t) (own w t past)
  own_answers past t follows =
      let known = threads_known w code past follows in
      elim (cases_lt t (started past)) [
        | inl lt ↦ all_answer w.laid (beginning w past t) (own w t past) (known.go_on t lt)
        | inr le ↦ subst (AreAnswers Split w.laid (beginning w past t)) (sym (known.silent t le)) tt
      ]

pub from_source : (w : World) → ReturnsAreFromSource w
from_source w fit = source w fit.code

pub few : (w : World) → ThreadsAreFew w
few w fit = few_threads w fit.code

pub answer : (w : World) → ThreadsAnswerTheirCode w
answer w fit = own_answers w fit.code

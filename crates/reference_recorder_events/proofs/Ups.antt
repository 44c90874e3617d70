-- An Up.
use Rattle.std.proofs.Common.{◌≡◌, ◌⊎◌, inl, inr, ⊎_elim, ℕ, true, ◌||◌, eqb, List, Some, refl, sym, ap, ◌∙◌, subst, eq-eqb, eqb-true}
use Rattle.std.specs.Prelude.{is_some}
use Rattle.std.proofs.lemmas.Bool.{and_from, or_cases}
use Rattle.run_events.specs.declared.key.Class.TheVariants.{Callback}
use Rattle.marks.specs.declared.side.Side.TheVariants.{Replay}
use Rattle.marks.specs.Marks.{EventKind, Up, Mark}
use Rattle.marks.specs.Wants.{CallsBack, CalledBack, answer_if, event_answer, same_numbers}
use Rattle.c_code.specs.Machine.{frame_of}
use Rattle.c_code.specs.Typed.{AreArguments, CarriesValues}
use Rattle.replay_runs.specs.Runs.{OfKey, new_events}
use Rattle.replay_runs.specs.Keys.{key}
use Rattle.replay_runs.specs.Pool.{is_registered}
use Rattle.replay_runs.specs.Rules.{SharedEvent}
use Rattle.steps_above_memory.proofs.Accesses.{same_numbers_self}
use Rattle.whole_runs.specs.World.{World, begin, interface, main_of, may_run}
use Rattle.whole_runs.specs.Sides.{seen}
use Rattle.whole_runs.specs.Tests.{is_back}
use Rattle.whole_runs.specs.Steps.{Picked, goes_up}
use Rattle.whole_runs_seen.proofs.Threads.{carried, threads_known}
use Rattle.recorder_events.specs.Making.{CanBe}
use Rattle.recorder_events.proofs.Allocs.{only_key}
use Rattle.recorder_events.proofs.Registered.{registered_may_run}
use Rattle.reference_recorder_marks.specs.declared.mark.Mark.{Mark as Told}
use Rattle.reference_recorder_marks.specs.Marks.{past}
use Rattle.reference_recorder_origins.proofs.Memory.{registered_seen}
use Rattle.reference_recorder_threads.specs.Telling.{IsPast}
use Rattle.reference_recorder_events.specs.Events.{IsUpNext}

pub back_is : (w : World) (marks : List Told) (p : IsPast w marks) (f : ℕ) → is_back w (past marks) f ≡ is_back w p.run f
back_is w marks p f =
    ap (λ b. eqb f (main_of w.laid.code) || b) (ap (λ ms. is_registered (begin w) f (seen ms)) (sym p.same) ∙ registered_seen w f p.run)

module _ (w : World) (marks : List Told) (t f : ℕ) (args : List ℕ) (h : IsUpNext w marks t f args) where
  abbrev run : List Mark
  run = h.next.at.past.run

  abbrev s : Picked w run
  s = h.next.at.step

  abbrev kind : EventKind
  kind = Up f args

  back : is_back w run f ≡ true
  back = sym (back_is w marks h.next.at.past f) ∙ h.back

  want_is : s.want ≡ CallsBack f args (frame_of w.laid f args)
  want_is = h.next.at.told.0

  values : AreArguments w.laid f args
  values =
      let code = h.next.at.past.fit.code in
      subst (CarriesValues w.laid) want_is (carried w code run (threads_known w code run h.next.at.past.follows) s)

  -- `main`, or registered
  which : (f ≡ main_of w.laid.code) ⊎ (is_registered (begin w) f (seen run) ≡ true)
  which = ⊎_elim (λ e. inl (eqb-true f (main_of w.laid.code) e)) (λ e. inr e) (or_cases (eqb f (main_of w.laid.code)) (is_registered (begin w) f (seen run)) back)

  -- either may run above the cut
  may : may_run w.laid.placed Replay f ≡ true
  may = ⊎_elim
      (λ e. ap (may_run w.laid.placed Replay) e ∙ h.next.at.past.fit.code.main.runs)
      (λ e. registered_may_run w h.next.at.past.fit run h.next.at.past.follows f e)
      which

  answer : event_answer s.want kind ≡ Some (CalledBack f args)
  answer = ap (λ v. event_answer v kind) want_is ∙ ap (λ b. answer_if b (CalledBack f args)) (and_from (eqb f f) (same_numbers args args) (eq-eqb f f refl) (same_numbers_self args))

  pub can_be_up : CanBe w run s kind
  can_be_up = record {
    answers = ap is_some answer;
    agrees = subst (λ v. goes_up w run v ≡ true) (sym want_is) back;
    carries = (may, values);
    shared = λ k among. subst (λ j. SharedEvent (interface w) (begin w) j.class j.value (new_events (OfKey j) (seen run)) kind) (only_key (key Callback f) k among) which;
    bytes = λ x. tt;
    passes = h.next.passes;
  }

  -- with what is passed for the arguments
  pub can_be_up_with : (vs : List ℕ) → vs ≡ args → CanBe w run s (Up f vs)
  can_be_up_with vs same = subst (λ us. CanBe w run s (Up f us)) (sym same) can_be_up

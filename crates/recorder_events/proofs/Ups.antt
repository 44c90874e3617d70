-- An Up.
use Rattle.std.proofs.Common.{◌≡◌, ◌⊎◌, inl, inr, ⊎_elim, ◌<◌, ◌^◌, ℕ, true, eqb, List, [], ◌∷◌, length, Some, refl, sym, ap, ◌∙◌, subst, arith, eqb-true, eq-eqb}
use Rattle.std.specs.Prelude.{is_some}
use Rattle.std.proofs.lemmas.Bool.{and_from, or_cases}
use Rattle.run_events.specs.declared.event.Event.TheVariants as logged
use Rattle.run_events.specs.declared.key.Class.TheVariants.{Callback}
use Rattle.marks.specs.declared.side.Side.TheVariants.{Replay, System}
use Rattle.marks.specs.Marks.{EventKind, Up, Mark}
use Rattle.marks.specs.Wants.{CallsBack, CalledBack, answer_if, event_answer, same_numbers}
use Rattle.c_code.specs.Machine.{frame_of}
use Rattle.c_code.specs.Typed.{AreArguments, CarriesValues}
use Rattle.log_codec.specs.LogText.{IsCall}
use Rattle.replay_runs.specs.Runs.{OfKey, new_events}
use Rattle.replay_runs.specs.Keys.{key}
use Rattle.replay_runs.specs.Checks.{Passes}
use Rattle.replay_runs.specs.Pool.{is_registered}
use Rattle.replay_runs.specs.Rules.{SharedEvent}
use Rattle.steps_above_memory.proofs.Accesses.{same_numbers_self}
use Rattle.whole_runs.specs.World.{World, begin, interface, main_of, may_run}
use Rattle.whole_runs.specs.Sides.{seen}
use Rattle.whole_runs.specs.Tests.{back_checks, tests}
use Rattle.whole_runs.specs.Outcomes.{started}
use Rattle.whole_runs.specs.Steps.{goes_up}
use Rattle.whole_runs_seen.proofs.Threads.{carried, picked_started, threads_known}
use Rattle.recorder_threads.specs.Threads.{args_at}
use Rattle.recorder_threads.specs.Answers.{IsCalledBack, IsNoCall}
use Rattle.recorder_threads.proofs.Places.{count_is}
use Rattle.recorder_state.specs.declared.state.RunState.{RunState}
use Rattle.recorder_events.specs.Making.{CanBe, IsAtUp, IsCallBackNext, IsEventStep}
use Rattle.recorder_events.proofs.Allocs.{only_key}
use Rattle.recorder_events.proofs.Arguments.{call_body}
use Rattle.recorder_events.proofs.Marked.{plain_answer}
use Rattle.recorder_events.proofs.Registered.{registered_may_run}

module _ (w : World) (s : RunState) (t f : ℕ) (h : IsAtUp w s t f) where
  abbrev past : List Mark
  past = h.at.reached.past

  abbrev u : ℕ
  u = h.at.step.thread

  abbrev args : List ℕ
  args = args_at s.threads t

  abbrev bytes : List ℕ
  bytes = frame_of w.laid f args

  abbrev kind : EventKind
  kind = Up f args

  pub want_is : h.at.step.want ≡ CallsBack f args bytes
  want_is = h.at.told.0

  pub is_started : t < length s.threads
  is_started =
      let lt : t < started past = subst (λ n. n < started past) h.at.thread (picked_started w h.at.reached.fit.code past (threads_known w h.at.reached.fit.code past h.at.reached.follows) h.at.step) in
      let n = count_is w past s.threads h.at.reached.around.shown.threads in
      omega (arith, lt, n)

  values : AreArguments w.laid f args
  values = subst (CarriesValues w.laid) want_is (carried w h.at.reached.fit.code past (threads_known w h.at.reached.fit.code past h.at.reached.follows) h.at.step)

  -- `main`, or registered
  which : (f ≡ main_of w.laid.code) ⊎ (is_registered (begin w) f (seen past) ≡ true)
  which = ⊎_elim (λ e. inl (eqb-true f (main_of w.laid.code) e)) (λ e. inr e) (or_cases (eqb f (main_of w.laid.code)) (is_registered (begin w) f (seen past)) h.back)

  -- either may run above the cut
  may : may_run w.laid.placed Replay f ≡ true
  may = ⊎_elim
      (λ e. ap (may_run w.laid.placed Replay) e ∙ h.at.reached.fit.code.main.runs)
      (λ e. registered_may_run w h.at.reached.fit past h.at.reached.follows f e)
      which

  pub answer : event_answer h.at.step.want kind ≡ Some (CalledBack f args)
  answer = ap (λ v. event_answer v kind) want_is ∙ ap (λ b. answer_if b (CalledBack f args)) (and_from (eqb f f) (same_numbers args args) (eq-eqb f f refl) (same_numbers_self args))

  pub can_be : CanBe w past h.at.step kind
  can_be = record {
    answers = ap is_some answer;
    agrees = subst (λ v. goes_up w past v ≡ true) (sym want_is) h.back;
    carries = (may, values);
    shared = λ k among. subst (λ j. SharedEvent (interface w) (begin w) j.class j.value (new_events (OfKey j) (seen past)) kind) (only_key (key Callback f) k among) which;
    bytes = λ x. tt;
    passes = subst (λ d. Passes (tests w past u d h.at.step.want)) (sym h.at.side_is) (subst (λ v. Passes (tests w past u System v)) (sym want_is)
        (subst (λ b. Passes (back_checks w past u f bytes b)) (sym h.back) tt));
  }

  abbrev pub next_up : (vs : List ℕ) (value : ℕ) → vs ≡ args → value ≡ f → IsCallBackNext w s t (key Callback value ∷ []) (logged.Up f vs)
  next_up vs value same is = record {
    reached = h.at.reached;
    step = h.at.step;
    thread = h.at.thread;
    kind = kind;
    quiet = tt;
    goes_on = tt;
    can_be = can_be;
    keys_are = ap (λ n. key Callback n ∷ []) (sym is);
    event_is = ap (logged.Up f) (sym same);
    answer = CalledBack f args;
    answers = answer;
  }

  -- its record can stand in a log
  pub body : (vs : List ℕ) → vs ≡ args → f < 2 ^ 16 → IsCall f vs
  body vs same low = subst (IsCall f) (sym same) (call_body w.laid h.at.reached.fit.code.valid f args low values)

  -- the thread is told of it
  abbrev pub up_told : (new : RunState) → IsEventStep w new t h.at.step.want (CalledBack f args) → IsCalledBack w.laid new.threads t
  up_told new made = record {
    func = f;
    args = args;
    plain = plain_answer w new t h.at.step.want (CalledBack f args) made IsNoCall (subst IsNoCall (sym want_is) (λ z. z));
  }

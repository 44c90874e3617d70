-- The Ret of a function with a body, whose tests pass, comes next.
use Rattle.std.proofs.Common.{◌≡◌, ℕ, zero, suc, ◌+◌, ◌-◌, ◌<◌, ◌≤◌, Bool, true, false, cond, ◌&&◌, ltb, List, [], ◌∷◌, length, Option, Some, None, refl, sym, ap, ◌∙◌, subst, eq-eqb, arith}
use Rattle.std.specs.Prelude.{slice_get}
use Rattle.std.proofs.lemmas.Bool.{le-ltb, ltb-false, true≢false}
use Rattle.std.proofs.lemmas.List.{length-map}
use Rattle.marks.specs.declared.side.Side.TheVariants.{Replay}
use Rattle.marks.specs.Places.{builtin_count, thread_count}
use Rattle.marks.specs.Ranges.{Piece}
use Rattle.marks.specs.Marks.{Mark, NoRegion, Ret}
use Rattle.marks.specs.Wants.{Go, Returns, answer_if, event_answer, same_numbers}
use Rattle.c_code.specs.declared.code.FuncInfo.{FuncInfo}
use Rattle.c_code.specs.Builtins.{Prototype, prototypes, AreBuiltins}
use Rattle.c_code.specs.Machine.{Flat, Laid, entry, entry_of, func_of}
use Rattle.c_code.specs.MarkLists.{has_entry, result_shape, takes_values}
use Rattle.c_code.specs.Typed.{CarriesValues}
use Rattle.c_code.specs.Valid.{IsValid}
use Rattle.stub_meaning.specs.Meaning.{first_of, type_of}
use Rattle.c_code.specs.Values.{is_value}
use Rattle.space_memory_access.specs.declared.holder.Region.{Region}
use Rattle.space_memory_access.specs.Held.{innermost}
use Rattle.space_memory.specs.Releases.{outs_of}
use Rattle.steps_above_memory.specs.declared.refusal.StepRefusal.{StepRefusal}
use Rattle.steps_above_memory.specs.Refusals.{IsFound}
use Rattle.replay_runs.specs.Checks.{Passes}
use Rattle.replay_runs.specs.Interface.{Interface}
use Rattle.whole_runs.specs.World.{World, interface}
use Rattle.whole_runs.specs.Below.{targets}
use Rattle.whole_runs.specs.Memory.{HasAll, filled, real}
use Rattle.whole_runs.specs.Outcomes.{started}
use Rattle.whole_runs.specs.Steps.{Brings}
use Rattle.whole_runs.specs.Tests.{ret_checks, tests, with_answer}
use Rattle.whole_runs_seen.proofs.Entries.{IsOwn}
use Rattle.whole_runs_seen.proofs.Threads.{carried, own_want, picked_started, threads_known}
use Rattle.whole_runs_memory.specs.Rets.{IsEnding}
use Rattle.whole_runs_memory.proofs.RetChecks.{no_pieces}
use Rattle.recorder_memory.specs.Laws.{HoldsCall}
use Rattle.recorder_memory.specs.Returns.{IsAnswered, PassesReturn, RefusesReturn}
use Rattle.recorder_memory.proofs.Quiet.{calls_held}
use Rattle.recorder_memory.proofs.Returning.{none_answered}
use Rattle.recorder_threads.specs.declared.wants.Want.TheVariants as told
use Rattle.recorder_threads.specs.Threads.{args_at}
use Rattle.recorder_threads.proofs.Places.{count_is}
use Rattle.recorder_state.specs.declared.state.RunState.{RunState}
use Rattle.recorder_state.specs.Turns.{IsAtStep}
use Rattle.recorder_state.specs.Ends.{IsRefused}
use Rattle.recorder_events.proofs.Steps.{watch_few}
use Rattle.recorder_returns.specs.declared.returning.Returning.{Returning}
use Rattle.recorder_returns.specs.Bringing.{committing_of}
use Rattle.recorder_returns.specs.Coming.{IsReturning}
use Rattle.recorder_returns.specs.Saying.{IsSaid}
use Rattle.recorder_returns.proofs.Closing.{body_closes, ends_so}
use Rattle.recorder_returns.proofs.Few.{keys_few, regions_few}
use Rattle.recorder_returns.proofs.Said.{sizes_count}

alike : (xs : List ℕ) → same_numbers xs xs ≡ true
alike [] = refl
alike (x ∷ xs) = (λ j. eq-eqb x x refl j && alike xs j)

shape_is : (o : Option FuncInfo) → result_shape o ≡ (type_of o).result
shape_is (Some f) = refl
shape_is None = refl

-- ---- functions of the code

pub taken : (o : Option FuncInfo) (args : List ℕ) → takes_values o args ≡ true → (f : FuncInfo) × (o ≡ Some f)
taken (Some f) args e = (f, refl)
taken None args e = absurd (true≢false (sym e))

no_body : (fs : List FuncInfo) (ps : List Prototype) → AreBuiltins fs ps → (k : ℕ) → has_entry (entry_of (slice_get fs k)) ≡ false
no_body [] [] h k = refl
no_body [] (p ∷ ps) h k = absurd h
no_body (f ∷ fs) [] h k = absurd h
no_body (f ∷ fs) (p ∷ ps) h zero = ap has_entry h.0.no_body
no_body (f ∷ fs) (p ∷ ps) h (suc k) = no_body fs ps h.1 k

-- one with a body is no builtin
pub is_source : (l : Laid) → IsValid l.code → (f : ℕ) → has_entry (entry l f) ≡ true → builtin_count ≤ f
is_source l v f e = by (ltb f builtin_count) refl
  where
    by : (b : Bool) → ltb f builtin_count ≡ b → builtin_count ≤ f
    by false z = ltb-false f builtin_count z
    by true z = absurd (true≢false (sym e ∙ (ap (λ b. has_entry (entry_of (cond b (slice_get l.code.builtins f) (slice_get l.code.sources (f - builtin_count))))) z ∙ no_body l.code.builtins prototypes v.builtins f)))

there : (fs : List FuncInfo) (k : ℕ) (f : FuncInfo) → slice_get fs k ≡ Some f → k < length fs
there [] k f e = absurd (none e)
  where
    none : ◌≡◌ {A = Option FuncInfo} None (Some f) → ⊥
    none z = absurd cc
there (g ∷ fs) zero f e = omega arith
there (g ∷ fs) (suc k) f e = let lt = there fs k f e in omega (arith, lt)

-- one of the source is known
pub is_known : (code : Flat) (f : ℕ) (info : FuncInfo) → builtin_count ≤ f → func_of code f ≡ Some info → f < builtin_count + length code.sources
is_known code f info le e =
    let lt = there code.sources (f - builtin_count) info (sym (ap (λ b. cond b (slice_get code.builtins f) (slice_get code.sources (f - builtin_count))) (le-ltb f builtin_count le)) ∙ e) in
    omega (arith, lt, le)

-- ---- the step

module _ (w : World) (s : RunState) (t f v : ℕ) (h : IsAtStep w s t Replay (told.Return f v)) where
  abbrev past : List Mark
  past = h.reached.past

  abbrev pub args : List ℕ
  args = args_at s.threads t

  abbrev i : Interface
  i = interface w

  abbrev pub used : List ℕ
  used = i.used f args v

  abbrev pub committing : Option (ℕ × ℕ)
  committing = committing_of (i.commits f args v)

  wants : h.step.want ≡ Returns f args v
  wants = h.told

  pub ending : IsEnding w past h.step.thread f args v used committing
  ending = ends_so w h.reached.fit past h.reached.follows h.step f args v (body_closes w h.reached.fit past h.reached.follows h.step f args v wants)

  pub answered : IsAnswered w past f args v [] s.memory
  answered = none_answered w past s.memory f args v h.reached.memory

  pub holds : HoldsCall s.memory h.step.thread (i.outs f args)
  holds = calls_held w past s.memory h.step.thread f args (i.outs f args) h.reached.memory.above ending.thread ending.closes

  tested : Passes (ret_checks w past f args v []) → Passes (tests w past h.step.thread h.step.side h.step.want)
  tested passes = subst (λ d. Passes (tests w past h.step.thread d h.step.want)) (sym h.side_is) (subst (λ x. Passes (tests w past h.step.thread Replay x)) (sym wants) passes)

  carries : CarriesValues w.laid (Returns f args v)
  carries = subst (CarriesValues w.laid) wants (carried w h.reached.fit.code past (threads_known w h.reached.fit.code past h.reached.follows) h.step)

  body : has_entry (entry w.laid f) ≡ true
  body = (subst (IsOwn w.laid h.step.side) wants (own_want w h.reached.fit.code past (threads_known w h.reached.fit.code past h.reached.follows) h.step)).1

  source : builtin_count ≤ f
  source = is_source w.laid h.reached.fit.code.valid f body

  info : (g : FuncInfo) × (func_of w.laid.code f ≡ Some g)
  info = taken (func_of w.laid.code f) args carries.0

  -- with no pieces of an answer memory is as it is
  as_it_is : (up : List Piece) → HasAll (with_answer w past f args v []) up → HasAll (real w past) up
  as_it_is up has = subst (λ ps. HasAll (λ x. filled ps x (real w past x)) up) (no_pieces (targets w Replay past f args v)) has

  pub returning : Passes (ret_checks w past f args v []) → IsReturning w s t f v Go
  returning passes = record {
    fit = h.reached.fit;
    past = past;
    follows = h.reached.follows;
    steps = h.reached.steps;
    around = h.reached.around;
    few = watch_few w s h.reached;
    step = h.step;
    thread = h.thread;
    side_is = h.side_is;
    answer = [];
    wanted = record {
      answers = λ same up commit. ap (λ x. event_answer x (Ret f args v same up commit)) wants ∙ (λ j. answer_if (eq-eqb f f refl j && (alike args j && eq-eqb v v refl j)) Go);
      brings = λ up has. subst (λ x. Brings w past h.step.thread x v up) (sym wants) (as_it_is up has);
    };
    of_interface = record {
      known = is_known w.laid.code f info.0 source info.1;
      gives = subst (λ z. is_value z v ≡ true) (shape_is (func_of w.laid.code f)) carries.1;
      regions = regions_few w h.reached.fit f info.0 source info.1 args;
      keys = keys_few w h.reached.fit f info.0 source info.1 args v h.step.thread past false [] NoRegion;
    };
    ending = ending;
    answered = answered;
    passes = passes;
    tested = tested passes;
  }

  -- the thread is there
  pub few : t < thread_count
  few = subst (λ u. u < thread_count) h.thread ending.thread

  pub is_started : t < length s.threads
  is_started =
      let lt : t < started past = subst (λ u. u < started past) h.thread (picked_started w h.reached.fit.code past (threads_known w h.reached.fit.code past h.reached.follows) h.step) in
      let n = count_is w past s.threads h.reached.around.shown.threads in
      omega (arith, lt, n)

  -- what its tests find
  module _ (said : Returning) (is_said : IsSaid w f args v said) (us : List ℕ) (o : Option (ℕ × ℕ)) (used_is : us ≡ said.done.used) (committing_is : o ≡ committing_of (first_of said.done.commits)) where
    so : IsEnding w past t f args v us o
    so = subst (λ u. IsEnding w past u f args v us o) h.thread
        (subst (IsEnding w past h.step.thread f args v us) (sym (committing_is ∙ ap committing_of is_said.commit))
        (subst (λ ns. IsEnding w past h.step.thread f args v ns committing) (sym (used_is ∙ is_said.used)) ending))

    pub sizes : length us ≡ length (outs_of (innermost s.memory.above.spaces.held t) s.memory.above.spaces.held.regions)
    sizes =
        let held : HoldsCall s.memory t (i.outs f args) = subst (λ u. HoldsCall s.memory u (i.outs f args)) h.thread holds in
        ap length (used_is ∙ is_said.used) ∙ (sizes_count (i.outs f args) used used ending.sizes ∙ (ap length (sym held.regions) ∙ length-map (outs_of (innermost s.memory.above.spaces.held t) s.memory.above.spaces.held.regions) (λ (g : Region). g.range)))

    pub passes_so : PassesReturn s.memory t us o → IsReturning w s t f v Go
    passes_so passes = returning (passes w past f args v [] answered so)

    pub refused : (refusal : StepRefusal) → RefusesReturn s.memory t us o refusal → IsRefused w s t Replay refusal
    refused refusal refuses = record {
      at = record {
        fit = h.reached.fit;
        past = past;
        follows = h.reached.follows;
        seen = h.reached.memory.above;
        shown = h.reached.around.shown;
        step = h.step;
        thread = h.thread;
        side_is = h.side_is;
      };
      found = subst (λ x. IsFound (tests w past t Replay x) refusal) (sym wants) (refuses w past f args v [] answered so);
    }

-- Steps that memory made go on, and those that it refuses end the run.
use Rattle.std.proofs.Common.{◌≡◌, ℕ, ◌<◌, false, List, ◌∷◌, length, Some, None, refl, sym, ap, ◌∙◌, subst, arith}
use Rattle.marks.specs.declared.side.Side.{Side}
use Rattle.marks.specs.Places.{thread_count}
use Rattle.marks.specs.Marks.{Act, Mark, is_event}
use Rattle.marks.specs.Wants.{Want, Answer, answer_to}
use Rattle.c_code.specs.Typed.{CarriesValues}
use Rattle.steps_above_memory.specs.declared.refusal.StepRefusal.{StepRefusal}
use Rattle.steps_above_memory.specs.Refusals.{IsFound}
use Rattle.whole_runs.specs.World.{World}
use Rattle.whole_runs.specs.Outcomes.{act_outcome, started}
use Rattle.whole_runs.specs.Tests.{tests}
use Rattle.whole_runs.specs.Steps.{IsMade}
use Rattle.whole_runs_seen.proofs.Threads.{carried, picked_started, threads_known}
use Rattle.recorder_memory.specs.declared.memory.Memory.{Memory}
use Rattle.recorder_memory.specs.Stands.{StandsForRun, StandsForSeen}
use Rattle.recorder_memory.specs.Steps.{ComesTo, IsMarked, MayRun, next_mark}
use Rattle.recorder_memory.proofs.Quiet as memory
use Rattle.recorder_threads.specs.declared.wants.Want.{Want as Told}
use Rattle.recorder_threads.proofs.Places.{count_is}
use Rattle.recorder_state.specs.declared.state.RunState.{RunState}
use Rattle.recorder_state.specs.Stands.{IsAroundAfter, IsShownAfter}
use Rattle.recorder_state.specs.Turns.{IsAtStep}
use Rattle.recorder_state.specs.declared.stop.Stop.{Stop}
use Rattle.recorder_state.specs.Ends.{IsRefused, IsStopped}
use Rattle.recorder_state.specs.Plain.{IsPlainStep}
use Rattle.recorder_plain.proofs.Replies.{plain_replies}

module _ (w : World) (past : List Mark) (s : RunState) (new : Memory) where
  -- memory has nothing to do with what is shown
  shown_still : IsShownAfter w past s → IsShownAfter w past (record s { memory = new })
  shown_still h = record { threads = h.threads; stamps = h.stamps; book = h.book; output = h.output; system_output = h.system_output }

  around_still : IsAroundAfter w past s → IsAroundAfter w past (record s { memory = new })
  around_still h = record { shown = shown_still h.shown; system = h.system; interface = h.interface; functions = h.functions; prepared = h.prepared }

module _ (w : World) (s : RunState) (t : ℕ) (side : Side) (said : Told) (at : IsAtStep w s t side said) where
  abbrev pub before : List Mark
  before = at.reached.past

  pub few : t < thread_count
  few = subst (λ u. u < thread_count) at.thread (memory.few w at.reached.fit before at.step)

  pub is_started : t < length s.threads
  is_started =
      let lt : t < started before = subst (λ u. u < started before) at.thread (picked_started w at.reached.fit.code before (threads_known w at.reached.fit.code before at.reached.follows) at.step) in
      let n = count_is w before s.threads at.reached.around.shown.threads in
      omega (arith, lt, n)

  -- what is wanted has arguments of its function
  pub carries : CarriesValues w.laid at.step.want
  carries = carried w at.reached.fit.code before (threads_known w at.reached.fit.code before at.reached.follows) at.step

  -- memory comes to the step, where its functions keep their modes
  abbrev pub comes : (want : Want) → at.step.want ≡ want → MayRun w before side want → ComesTo w before s.memory t side want
  comes want is modes = record {
    fit = at.reached.fit;
    follows = at.reached.follows;
    stands = at.reached.memory;
    step = at.step;
    thread = at.thread;
    side_is = at.side_is;
    want_is = is;
    modes = modes;
  }

  module _ (want : Want) (is : at.step.want ≡ want) where
    -- the state goes on with memory that made it
    pub goes_on : (act : Act) (x : Answer) (new : Memory) → is_event act ≡ false → act_outcome t act ≡ None → answer_to want act ≡ Some x → IsMarked w before at.step act new → IsPlainStep w (record s { memory = new }) t side x
    goes_on act x new plain none gives marked = record {
      act = act;
      is_done = record {
        fit = at.reached.fit;
        past = before;
        follows = at.reached.follows;
        steps = at.reached.steps;
        around = around_still w before s new at.reached.around;
        step = at.step;
        thread = at.thread;
        side_is = at.side_is;
        made = subst (IsMade w before at.step) same marked.made;
        memory = subst (λ m. StandsForRun w (m ∷ before) new) same marked.stands;
      };
      plain = plain;
      no_outcome = none;
      answers = plain_replies side at.step.want (next_mark w before t side act) x plain refl (ap (λ v. answer_to v act) is ∙ gives);
    }
      where
        same : next_mark w before at.step.thread at.step.side act ≡ next_mark w before t side act
        same = λ i. next_mark w before (at.thread i) (at.side_is i) act

    -- or its tests find why it is refused
    pub refused : (r : StepRefusal) (new : Memory) → IsFound (tests w before t side want) r → StandsForSeen w before new → IsRefused w (record s { memory = new }) t side r
    refused r new found stands = record {
      at = record {
        fit = at.reached.fit;
        past = before;
        follows = at.reached.follows;
        seen = stands;
        shown = shown_still w before s new at.reached.around.shown;
        step = at.step;
        thread = at.thread;
        side_is = at.side_is;
      };
      found = subst (λ v. IsFound (tests w before t side v) r) (sym is) found;
    }

    -- and the run ends so
    pub stops : (r : StepRefusal) (end : Stop) (new : Memory) → ((v : World) (n : RunState) → IsRefused v n t side r → IsStopped v n end) → IsFound (tests w before t side want) r → StandsForSeen w before new → IsStopped w (record s { memory = new }) end
    stops r end new ends found stands = ends w (record s { memory = new }) (refused r new found stands)

    -- memory is as it was
    pub stops_before : (r : StepRefusal) (end : Stop) (new : Memory) → new ≡ s.memory → ((v : World) (n : RunState) → IsRefused v n t side r → IsStopped v n end) → IsFound (tests w before t side want) r → IsStopped w (record s { memory = new }) end
    stops_before r end new same ends found = stops r end new ends found (subst (StandsForSeen w before) (sym same) at.reached.memory.above)

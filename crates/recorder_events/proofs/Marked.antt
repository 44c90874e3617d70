-- A step that is an event which was recorded, and what threads and system are told of it.
use Rattle.std.proofs.Common.{◌≡◌, ℕ, Bool, true, false, cond, ◌||◌, eqb, List, [], ◌∷◌, ◌++◌, length, Option, Some, None, refl, sym, ap, ◌∙◌, subst}
use Rattle.run_events.specs.declared.key.Class.TheVariants.{Callback, Out}
use Rattle.run_events.specs.declared.key.Key.{Key}
use Rattle.marks.specs.Marks.{EventKind, Call, Ret, Up, UpRet, Alloc, Free, Stop, Mark}
use Rattle.marks.specs.Bytes.{Byte}
use Rattle.marks.specs.Wants.{Want, Answer}
use Rattle.c_code.specs.MarkLists.{reply}
use Rattle.c_machine.specs.Moves.{ThreadState}
use Rattle.system_side.specs.Threads.{has_not_ended}
use Rattle.replay_runs.specs.Runs.{OfKey, has, marks_of, new_events}
use Rattle.replay_runs.specs.Keys.{key}
use Rattle.replay_runs.specs.Interface.{Interface}
use Rattle.replay_runs.specs.Pool.{is_call_event, registered_from}
use Rattle.replay_runs.specs.Records.{printed, printed_by}
use Rattle.replay_runs.specs.Laws.{fresh}
use Rattle.steps_above_interface.specs.State.{KeptState}
use Rattle.steps_above_interface.specs.Returns.{index_after, last_index}
use Rattle.steps_above_interface.specs.Stands as functions
use Rattle.steps_above_stamps.specs.Stamps.{event_with}
use Rattle.steps_above_stamps.specs.declared.stamps.EventStamp.{EventStamp}
use Rattle.whole_runs.specs.World.{World, interface}
use Rattle.whole_runs.specs.Sides.{seen}
use Rattle.whole_runs.specs.Outcomes.{event_outcome}
use Rattle.whole_runs.specs.Picks.{can_step}
use Rattle.whole_runs.specs.Log.{replay_output, system_output}
use Rattle.whole_runs.specs.Steps.{Picked}
use Rattle.whole_runs.specs.Ends.{Follows, HasRoomFor}
use Rattle.whole_runs.specs.Fits.{IsFit}
use Rattle.recorder_memory.specs.declared.memory.Memory.{Memory}
use Rattle.recorder_memory.specs.Stands.{StandsForRun, placed}
use Rattle.recorder_threads.specs.Threads.{AreThreadsOf}
use Rattle.recorder_threads.specs.Answers.{IsAnswered, IsPlain}
use Rattle.recorder_system.specs.Stands.{IsSystemBut}
use Rattle.recorder_system.proofs.Lists.{found_passes}
use Rattle.recorder_system.proofs.Noted.{plain}
use Rattle.recorder_system.proofs.Runs.{started_same}
use Rattle.recorder_system.proofs.Standing.{can_is_ready, ready_runs}
use Rattle.recorder_state.specs.declared.state.RunState.{RunState}
use Rattle.recorder_state.specs.Stands.{IsAroundAfter}
use Rattle.recorder_state.specs.Plain.{IsMarkedStep, IsStepTold}
use Rattle.recorder_events.specs.Making.{IsEventStep, IsOfPoolOrUp, IsRecorded, event_mark}

append_nil : {X : Type 0} (xs : List X) → xs ++ [] ≡ xs
append_nil [] = refl
append_nil (x ∷ xs) = ap (λ ys. x ∷ ys) (append_nil xs)

-- ---- an event of the pool or of a call back

module _ (w : World) (past : List Mark) (s : Picked w past) (stamp : EventStamp) where
  nothing_printed : (kind : EventKind) → IsOfPoolOrUp kind → printed (event_with kind stamp) ≡ []
  nothing_printed (Up f args) q = refl
  nothing_printed (UpRet f v) q = refl
  nothing_printed (Alloc at size) q = refl
  nothing_printed (Free at size) q = refl
  nothing_printed (Stop fault) q = absurd q
  nothing_printed (Call f args ins outs prepared) q = absurd q
  nothing_printed (Ret f args v same outs commit) q = absurd q

  no_call : (kind : EventKind) → IsOfPoolOrUp kind → is_call_event kind ≡ false
  no_call (Up f args) q = refl
  no_call (UpRet f v) q = refl
  no_call (Alloc at size) q = refl
  no_call (Free at size) q = refl
  no_call (Stop fault) q = absurd q
  no_call (Call f args ins outs prepared) q = absurd q
  no_call (Ret f args v same outs commit) q = absurd q

  no_index : (f n : ℕ) (last : Option ℕ) (kind : EventKind) → IsOfPoolOrUp kind → index_after f n kind last ≡ last
  no_index f n last (Up g args) q = refl
  no_index f n last (UpRet g v) q = refl
  no_index f n last (Alloc at size) q = refl
  no_index f n last (Free at size) q = refl
  no_index f n last (Stop fault) q = absurd q
  no_index f n last (Call g args ins outs prepared) q = absurd q
  no_index f n last (Ret g args v same outs commit) q = absurd q

  pub no_outcome : (t : ℕ) (kind : EventKind) → IsOfPoolOrUp kind → event_outcome t kind ≡ None
  no_outcome t (Up g args) q = refl
  no_outcome t (UpRet g v) q = refl
  no_outcome t (Alloc at size) q = refl
  no_outcome t (Free at size) q = refl
  no_outcome t (Stop fault) q = absurd q
  no_outcome t (Call g args ins outs prepared) q = absurd q
  no_outcome t (Ret g args v same outs commit) q = absurd q

  module _ (kind : EventKind) (quiet : IsOfPoolOrUp kind) where
    abbrev m : Mark
    m = event_mark w past s kind stamp

    pub same_output : replay_output w (m ∷ past) ≡ replay_output w past
    same_output = by (has m (OfKey (key Out 0)))
      where
        by : (b : Bool) → printed_by (cond b (m ∷ new_events (OfKey (key Out 0)) (seen past)) (new_events (OfKey (key Out 0)) (seen past))) ≡ printed_by (new_events (OfKey (key Out 0)) (seen past))
        by true = ap (λ xs. printed_by (new_events (OfKey (key Out 0)) (seen past)) ++ xs) (nothing_printed kind quiet) ∙ append_nil (printed_by (new_events (OfKey (key Out 0)) (seen past)))
        by false = refl

    pub same_system_output : system_output (m ∷ past) ≡ system_output past
    same_system_output = append_nil (system_output past)

    pub same_functions : (i : Interface) (memory : ℕ → Byte) (st : KeptState) → functions.IsStateOf i memory (seen past) st → functions.IsStateOf i memory (m ∷ seen past) st
    same_functions i memory st h = record {
      registered = λ f lt. h.registered f lt ∙ sym (registers f (has m (OfKey (key Callback f))));
      returned = λ t f lt few cached. h.returned t f lt few cached ∙ sym (returns t f (eqb s.thread t));
    }
      where
        registers : (f : ℕ) (b : Bool) → registered_from false (cond b (m ∷ new_events (OfKey (key Callback f)) (seen past)) (new_events (OfKey (key Callback f)) (seen past))) ≡ registered_from false (new_events (OfKey (key Callback f)) (seen past))
        registers f true = ap (λ b. b || registered_from false (new_events (OfKey (key Callback f)) (seen past))) (no_call kind quiet)
        registers f false = refl

        returns : (t f : ℕ) (b : Bool) → last_index f (cond b (m ∷ marks_of (fresh memory) t (seen past)) (marks_of (fresh memory) t (seen past))) ≡ last_index f (marks_of (fresh memory) t (seen past))
        returns t f true = no_index f m.index (last_index f (marks_of (fresh memory) t (seen past))) kind quiet
        returns t f false = refl

-- ---- the step of any event

-- what stands beside memory stands beside another memory
pub around_with : (w : World) (past : List Mark) (s : RunState) (memory : Memory) → IsAroundAfter w past s → IsAroundAfter w past (record s { memory = memory })
around_with w past s memory a = record {
  shown = record {
    threads = a.shown.threads;
    stamps = a.shown.stamps;
    book = a.shown.book;
    output = a.shown.output;
    system_output = a.shown.system_output;
  };
  system = a.system;
  interface = a.interface;
  functions = a.functions;
  prepared = a.prepared;
}

module _ (w : World) (past : List Mark) (s : Picked w past) (kind : EventKind) (keys : List Key) (old new : RunState) (r : IsRecorded w past s kind keys old new) where
  -- of the pool or of a call back
  pub event_step : (t : ℕ) (x : Answer) → IsOfPoolOrUp kind → IsFit w → Follows w past → old.steps ≡ length past → IsAroundAfter w past old → s.thread ≡ t → HasRoomFor past (event_mark w past s kind r.stamp)
      → StandsForRun w (event_mark w past s kind r.stamp ∷ past) old.memory → reply s.side s.want (event_mark w past s kind r.stamp) ≡ Some x → IsEventStep w new t s.want x
  event_step t x quiet fit follows steps around thread room memory answers = subst (λ z. IsEventStep w z t s.want x) (sym r.rest) (record {
    marked = record {
      fit = fit;
      past = past;
      follows = follows;
      steps = steps;
      step = s;
      thread = thread;
      mark = event_mark w past s kind r.stamp;
      made = r.made;
      room = room;
      others = record {
        memory = memory;
        stamps = r.stamps;
        book = r.book;
        output = around.shown.output ∙ sym (same_output w past s r.stamp kind quiet);
        system_output = around.shown.system_output ∙ sym (same_system_output w past s r.stamp kind quiet);
        interface = same_functions w past s r.stamp kind quiet (interface w) (placed w) old.interface around.interface;
        functions = around.functions;
        prepared = around.prepared;
      };
    };
    want_is = refl;
    threads = around.shown.threads;
    system = around.system;
    no_outcome = no_outcome w past s r.stamp s.thread kind quiet;
    answers = answers;
  })

-- ---- what is told of it

module _ (w : World) (s : RunState) (t : ℕ) (want : Want) (x : Answer) (h : IsEventStep w s t want x) where
  abbrev k : IsMarkedStep w s t
  k = h.marked

  pub of_thread : k.mark.thread ≡ t
  of_thread = k.made.mark.of_thread ∙ k.thread

  abbrev pub answered : (On : Want → Type 0) → On want → IsAnswered w.laid s.threads t On x
  answered On wanted = record {
    world = w;
    laid = refl;
    fit = k.fit;
    past = k.past;
    stand = h.threads;
    mark = k.mark;
    of_thread = of_thread;
    follows = (record { step = k.step; made = k.made; room = k.room }, k.follows);
    wanted = subst On (sym h.want_is) wanted;
    answers = h.answers;
  }

  abbrev pub plain_answer : (On : Want → Type 0) → On want → IsPlain w.laid s.threads t On x
  plain_answer On wanted = record { next = answered On wanted; alone = started_same k.past k.mark h.no_outcome }

  can : can_step w k.past k.step.thread ≡ true
  can = found_passes (can_step w k.past) _ k.step.thread k.step.picked

  runs : has_not_ended s.system.threads k.step.thread ≡ true
  runs = ready_runs s.system.threads k.step.thread (can_is_ready w k.past s.system h.system k.step.thread can)

  pub step_told : (threads : List ThreadState) → AreThreadsOf w (k.mark ∷ k.past) threads → IsStepTold w (record s { threads = threads }) t
  step_told threads told = record {
    marked = record {
      fit = k.fit;
      past = k.past;
      follows = k.follows;
      steps = k.steps;
      step = k.step;
      thread = k.thread;
      mark = k.mark;
      made = k.made;
      room = k.room;
      others = record {
        memory = k.others.memory;
        stamps = k.others.stamps;
        book = k.others.book;
        output = k.others.output;
        system_output = k.others.system_output;
        interface = k.others.interface;
        functions = k.others.functions;
        prepared = k.others.prepared;
      };
    };
    threads = told;
    system = subst (λ u. IsSystemBut u w (k.mark ∷ k.past) s.system) of_thread (plain w k.past k.mark s.system (ap (can_step w k.past) k.made.mark.of_thread ∙ can) h.no_outcome h.system);
    running = subst (λ u. has_not_ended s.system.threads u ≡ true) k.thread runs;
  }

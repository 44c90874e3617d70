-- What a plain step asks of the parts of the state.
use Rattle.std.proofs.Common.{◌≡◌, ℕ, suc, ◌<◌, ◌≤◌, [], true, List, ◌∷◌, length, slice_index, Some, refl, sym, ◌∙◌, subst, arith}
use Rattle.marks.specs.declared.side.Side.{Side}
use Rattle.marks.specs.declared.side.Side.TheVariants.{Replay, System}
use Rattle.marks.specs.Places.{thread_count}
use Rattle.marks.specs.Marks.{Mark}
use Rattle.marks.specs.Wants.{Answer}
use Rattle.c_code.specs.MarkLists.{reply}
use Rattle.c_machine.specs.Wants.{told}
use Rattle.c_machine.specs.declared.wants.Answer.{Answer as Told}
use Rattle.c_machine.specs.declared.wants.Answer.TheVariants as answers
use Rattle.c_machine.specs.Moves.{ThreadState}
use Rattle.system_side.specs.Threads.{has_not_ended}
use Rattle.system_side.specs.System.{SystemState}
use Rattle.steps_above_interface.specs.Stands as functions
use Rattle.steps_above_stamps.specs.State.{StampsState}
use Rattle.steps_above_stamps.specs.Stamps.{AreStampsOf, CountsStep}
use Rattle.steps_above_stamps.proofs.Few.{are_few}
use Rattle.whole_runs.specs.World.{World, interface}
use Rattle.whole_runs.specs.Sides.{seen}
use Rattle.whole_runs.specs.Picks.{can_step}
use Rattle.whole_runs.specs.Steps.{Picked}
use Rattle.whole_runs_seen.proofs.Threads.{no_fault, threads_known}
use Rattle.recorder_memory.specs.Stands.{placed}
use Rattle.recorder_memory.specs.Steps.{next_mark}
use Rattle.recorder_memory.proofs.Quiet.{few}
use Rattle.recorder_threads.specs.Threads.{AreThreadsOf}
use Rattle.recorder_threads.specs.Answers.{IsNoCall, IsPlain}
use Rattle.recorder_system.specs.Stands.{IsSystemOf}
use Rattle.recorder_system.proofs.Lists.{found_passes}
use Rattle.recorder_system.proofs.Noted.{plain}
use Rattle.recorder_system.proofs.Runs.{started_same}
use Rattle.recorder_system.proofs.Standing.{can_is_ready, ready_runs}
use Rattle.recorder_state.specs.declared.state.RunState.{RunState}
use Rattle.recorder_state.specs.Plain.{IsDone, IsPlainStep, IsStepTold}
use Rattle.recorder_state.proofs.Plain.{is_counted, same_book, same_functions, same_output, same_system_output, seen_above, seen_below, with_seen}
use Rattle.recorder_state.proofs.Regions.{same_prepared}
use Rattle.recorder_state.proofs.Going.{GoesOn, in_budget, follows_so, no_call, room}

-- no answer that a thread is told is a fault
pub told_goes_on : (x : Told) → GoesOn (told x)
told_goes_on answers.Go e = absurd cc
told_goes_on (answers.Value v) e = absurd cc
told_goes_on (answers.Frame at) e = absurd cc

-- a replay sees no more marks than there are
shorter : (past : List Mark) → length (seen past) ≤ length past
shorter [] = omega arith
shorter (m ∷ past) = with_seen (λ ms. length ms ≤ suc (length past)) past m (let k = shorter past in omega (arith, k)) (let k = shorter past in omega (arith, k))

-- a picked thread can step, and the system knows that it runs
pub picked_can : (w : World) (past : List Mark) (s : Picked w past) → can_step w past s.thread ≡ true
picked_can w past s = found_passes (can_step w past) _ s.thread s.picked

pub picked_runs : (w : World) (past : List Mark) (s : Picked w past) (system : SystemState) → IsSystemOf w past system → has_not_ended system.threads s.thread ≡ true
picked_runs w past s system h = ready_runs system.threads s.thread (can_is_ready w past system h s.thread (picked_can w past s))

module _ (w : World) (s : RunState) (t : ℕ) (side : Side) (x : Answer) (h : IsPlainStep w s t side x) (goes : GoesOn x) where
  abbrev d : IsDone w s t side h.act
  d = h.is_done

  abbrev m : Mark
  m = next_mark w d.past t side h.act

  abbrev pub answers_so : reply d.step.side d.step.want m ≡ Some x
  answers_so = subst (λ z. reply z d.step.want m ≡ Some x) (sym d.side_is) h.answers

  abbrev pub is_plain : IsPlain w.laid s.threads t IsNoCall x
  is_plain = record {
    next = record {
      world = w;
      laid = refl;
      fit = d.fit;
      past = d.past;
      stand = d.around.shown.threads;
      mark = m;
      of_thread = refl;
      follows = follows_so w d.past m d.step d.made (room d.past m h.plain) d.follows;
      wanted = no_call d.step.side d.step.want m x h.plain goes answers_so;
      answers = answers_so;
    };
    alone = started_same d.past m h.no_outcome;
  }

  pub is_few : t < thread_count
  is_few = subst (λ u. u < thread_count) d.thread (few w d.fit d.past d.step)

  pub steps_few : slice_index s.stamps.steps t < 4000000000
  steps_few =
      let n = (are_few (placed w) (seen d.past) s.stamps d.around.shown.stamps).steps t is_few in
      let k = shorter d.past in
      let b = in_budget w d.past d.follows in
      let le = d.fit.file.budget in
      omega (arith, n, k, b, le)

  -- the stamps after it, counted above the cut
  pub counted : (new : StampsState) → side ≡ Replay → CountsStep t s.stamps new → AreStampsOf (placed w) (seen (m ∷ d.past)) new
  counted new e counts =
      subst (λ ms. AreStampsOf (placed w) ms new) (sym (seen_above d.past m e))
      (counts (placed w) (seen d.past) m refl (is_counted h.act h.plain (no_fault w d.fit.code d.past (threads_known w d.fit.code d.past d.follows) d.step m d.made h.act d.made.agrees)) d.around.shown.stamps)

  pub uncounted : side ≡ System → AreStampsOf (placed w) (seen (m ∷ d.past)) s.stamps
  uncounted e = subst (λ ms. AreStampsOf (placed w) ms s.stamps) (sym (seen_below d.past m e)) d.around.shown.stamps

  -- all but the system were told
  pub step_told : (threads : List ThreadState) (stamps : StampsState) → ((a : IsPlain w.laid s.threads t IsNoCall x) → AreThreadsOf a.next.world (a.next.mark ∷ a.next.past) threads) → AreStampsOf (placed w) (seen (m ∷ d.past)) stamps → IsStepTold w (record s { threads = threads; stamps = stamps }) t
  step_told threads stamps tells stand = record {
    marked = record {
      fit = d.fit;
      past = d.past;
      follows = d.follows;
      steps = d.steps;
      step = d.step;
      thread = d.thread;
      mark = m;
      made = d.made;
      room = room d.past m h.plain;
      others = record {
        memory = d.memory;
        stamps = stand;
        book = same_book m h.plain w d.past s.book d.around.shown.book;
        output = d.around.shown.output ∙ sym (same_output m h.plain w d.past);
        system_output = d.around.shown.system_output ∙ sym (same_system_output d.past m t h.no_outcome);
        interface = with_seen (λ ms. functions.IsStateOf (interface w) (placed w) ms s.interface) d.past m (same_functions m h.plain (interface w) (placed w) (seen d.past) s.interface d.around.interface) d.around.interface;
        functions = d.around.functions;
        prepared = same_prepared w d.past m t s.prepared h.no_outcome d.around.prepared;
      };
    };
    threads = tells is_plain;
    system = plain w d.past m s.system can h.no_outcome d.around.system;
    running = subst (λ u. has_not_ended s.system.threads u ≡ true) d.thread (picked_runs w d.past d.step s.system d.around.system);
  }
    where
      can : can_step w d.past t ≡ true
      can = subst (λ u. can_step w d.past u ≡ true) d.thread (picked_can w d.past d.step)

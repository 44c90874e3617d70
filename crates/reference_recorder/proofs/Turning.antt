-- Whose step comes next, and how a run ends before any.
use Rattle.std.proofs.Common.{◌≡◌, ℕ, ◌<◌, ◌≤◌, true, false, List, [], ◌∷◌, length, None, refl, sym, ap, ◌∙◌, arith}
use Rattle.std.proofs.lemmas.Bool.{true≢false}
use Rattle.marks.specs.declared.side.Side.{Side}
use Rattle.marks.specs.Places.{thread_count}
use Rattle.marks.specs.Marks.{Mark}
use Rattle.c_code.specs.MarkLists.{Ends}
use Rattle.c_machine.specs.Moves.{ThreadState}
use Rattle.whole_runs.specs.declared.ending.Ending.TheVariants as ending
use Rattle.whole_runs.specs.declared.ending.Halt.TheVariants as halt
use Rattle.whole_runs.specs.World.{World}
use Rattle.whole_runs.specs.Threads.{comes}
use Rattle.whole_runs.specs.Picks.{all_ended, can_step, may_go_on, stepping}
use Rattle.whole_runs.specs.Steps.{GoesOn, Picked}
use Rattle.whole_runs.specs.Fits.{IsFit}
use Rattle.whole_runs_seen.proofs.BeforeStops.{after_steps}
use Rattle.whole_runs.specs.Ends.{Follows, IsLast, done, budget, blocked}
use Rattle.recorder_system.proofs.Lists.{found_passes}
use Rattle.recorder_system.proofs.Standing.{can_by, can_started}
use Rattle.recorder_threads.specs.declared.wants.Want.{Want}
use Rattle.recorder_threads.specs.Threads.{args_at}
use Rattle.recorder_threads.specs.Wants.{WantsTold}
use Rattle.recorder_threads.proofs.Places.{count_is}
use Rattle.recorder_state.specs.declared.turn.Turn.TheVariants as turn
use Rattle.reference_recorder_marks.specs.declared.mark.Mark.{Mark as Told}
use Rattle.reference_recorder_threads.specs.Telling.{AreThreadsAfter, IsPast}
use Rattle.reference_recorder_threads.proofs.Oldest.{as_many}
use Rattle.reference_recorder.specs.Steps.{IsNextThread, IsTurn}

in_budget : (w : World) (past : List Mark) → Follows w past → length past ≤ w.file.budget
in_budget w [] f = omega arith
in_budget w (m ∷ past) f = let lt = f.0.step.goes_on.in_budget in omega (arith, lt)

-- the thread that steps is one of those that may be
pub small_thread : (w : World) (past : List Mark) → IsFit w → Follows w past → (s : Picked w past) → s.thread < thread_count
small_thread w past fit follows s =
    let lt = can_started w past s.thread (found_passes (can_step w past) _ s.thread s.picked) in
    let few = (after_steps w fit past follows).few in
    omega (arith, lt, few)

module _ (w : World) (marks : List Told) (p : IsPast w marks) where
  pub as_marks : length p.run ≡ length marks
  as_marks = as_many p.run marks p.same

  pub ends_done : all_ended w p.run ≡ true → IsLast w p.run [] ending.Done
  ends_done e = done e

  pub ends_budget : all_ended w p.run ≡ false → length marks ≡ w.file.budget → IsLast w p.run [] (ending.Halted halt.Budget)
  ends_budget e is = budget e (as_marks ∙ is)

  pub goes_on : all_ended w p.run ≡ false → (length marks ≡ w.file.budget → ⊥) → GoesOn w p.run
  goes_on e ne = record { running = e; in_budget = (let le = in_budget w p.run p.follows in let same = as_marks in omega (arith, le, same, ne)) }

  pub ends_blocked : GoesOn w p.run → stepping w p.run ≡ None → IsLast w p.run [] (ending.Halted halt.Blocked)
  ends_blocked g e = blocked g e

  module _ (threads : List ThreadState) (are : AreThreadsAfter w marks threads) (t : ℕ) (n : IsNextThread w p.run t) where
    can : can_step w p.run t ≡ true
    can = found_passes (can_step w p.run) _ t n.picked

    pub is_started : t < length threads
    is_started = let c = count_is w p.run threads (are p) in let lt = can_started w p.run t can in omega (arith, c, lt)

    pub steps_next : (side : Side) (want : Want) → WantsTold w.laid (args_at threads t) side want (comes w p.run t) → IsTurn w marks p threads (turn.Step t side want)
    steps_next side want told = (
      is_started,
      (
        record {
          past = p;
          step = record { goes_on = n.goes_on; thread = t; picked = n.picked; side = side; want = told.want; to = told.to; comes_is = told.wants };
          of_thread = refl;
          on_side = refl;
          told = told.is_told;
        },
        refl,
      ),
    )

    pub not_ended : (v : ℕ) → comes w p.run t ≡ Ends v → ⊥
    not_ended v e = true≢false (sym can ∙ can_by w p.run t (can_started w p.run t can) ∙ ap (may_go_on w p.run t) e)

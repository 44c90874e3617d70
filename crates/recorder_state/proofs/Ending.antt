-- The end of a step of which all but the system were told.
use Rattle.std.proofs.Common.{◌≡◌, ℕ, ◌+◌, ◌<◌, List, ◌∷◌, length, Option, Some, None, refl, ap, ◌∙◌, arith}
use Rattle.marks.specs.Marks.{Mark}
use Rattle.c_code.specs.MarkLists.{Next, Quiet, Wants, Ends, No}
use Rattle.system_side.specs.System.{SystemState}
use Rattle.whole_runs.specs.World.{World}
use Rattle.whole_runs.specs.Outcomes.{started}
use Rattle.whole_runs.specs.Threads.{comes, ended_with, result_of}
use Rattle.whole_runs.specs.Ends.{Follows}
use Rattle.whole_runs_seen.proofs.Threads.{threads_known}
use Rattle.whole_runs_threads.proofs.Own.{started_on, thread_started}
use Rattle.whole_runs_threads.proofs.Values.{ended_gives}
use Rattle.recorder_system.specs.Stands.{IsInt, IsSystemOf}
use Rattle.recorder_threads.specs.declared.wants.Next.{Next as ToldNext}
use Rattle.recorder_threads.specs.declared.wants.Next.TheVariants as next
use Rattle.recorder_threads.specs.Threads.{IsNextOf, args_at}
use Rattle.recorder_threads.specs.Wants.{IsNextTold}
use Rattle.recorder_threads.proofs.Places.{count_is}
use Rattle.recorder_state.specs.declared.state.RunState.{RunState}
use Rattle.recorder_state.specs.Stands.{IsGoneOn, IsReached, KeepsSystem}
use Rattle.recorder_state.specs.Plain.{IsMarkedStep, IsStepTold}
use Rattle.recorder_state.proofs.Going.{follows_so}

module _ (w : World) (s : RunState) (t : ℕ) (h : IsStepTold w s t) where
  abbrev d : IsMarkedStep w s t
  d = h.marked

  abbrev now : List Mark
  now = d.mark ∷ d.past

  pub follows : Follows w now
  follows = follows_so w d.past d.mark d.step d.made d.room d.follows

  of_thread : d.mark.thread ≡ t
  of_thread = d.made.mark.of_thread ∙ d.thread

  below : t < started now
  below =
      let lt = thread_started w d.fit.code d.past d.mark follows in
      let on = started_on d.past d.mark in
      omega (arith, lt, on, of_thread)

  pub is_started : t < length s.threads
  is_started = let lt = below in let n = count_is w now s.threads h.threads in omega (arith, lt, n)

  pub is_few : s.steps < 2000000000
  is_few =
      let lt = d.step.goes_on.in_budget in
      let le = d.fit.file.budget in
      let n = d.steps in
      omega (arith, lt, le, n)

  ends : (n : Next) (v : ℕ) → ended_with n ≡ Some v → n ≡ Ends v
  ends (Ends u) v e = ap Ends (ap or_this e)
    where
      or_this : Option ℕ → ℕ
      or_this None = u
      or_this (Some x) = x
  ends (Quiet c) v e = absurd cc
  ends (Wants side want to) v e = absurd cc
  ends No v e = absurd cc

  -- what its code comes to
  pub comes_to : (n : ToldNext) → IsNextOf w.laid s.threads t n → IsNextTold w.laid (args_at s.threads t) n (comes w now t)
  comes_to n is = is w now refl h.threads

  pub has_ended : (v : ℕ) → IsNextOf w.laid s.threads t (next.Ended v) → result_of w now t ≡ Some v
  has_ended v is = ap ended_with (comes_to (next.Ended v) is)

  pub goes_on_so : (n : ToldNext) → ((v : ℕ) → n ≡ next.Ended v → ⊥) → IsNextOf w.laid s.threads t n → result_of w now t ≡ None
  goes_on_so (next.Ended v) isnt is = absurd (isnt v refl)
  goes_on_so (next.Wants side want) isnt is = ap ended_with (comes_to (next.Wants side want) is).wants

  pub is_int : (v : ℕ) → result_of w now t ≡ Some v → IsInt v
  is_int v e = ended_gives w d.fit now (threads_known w d.fit.code now follows) t v below (ends (comes w now t) v e)

  pub reached : (system : SystemState) → IsSystemOf w now system → IsReached w (record s { system = system; known = None; steps = s.steps + 1 })
  reached system stands = record {
    fit = d.fit;
    past = now;
    follows = follows;
    steps = ap (λ n. n + 1) d.steps ∙ omega arith;
    memory = d.others.memory;
    around = record {
      shown = record {
        threads = h.threads;
        stamps = d.others.stamps;
        book = d.others.book;
        output = d.others.output;
        system_output = d.others.system_output;
      };
      system = stands;
      interface = d.others.interface;
      functions = d.others.functions;
      prepared = d.others.prepared;
    };
    known = tt;
  }

  pub gone_on : (n : ToldNext) (system : SystemState) → IsNextOf w.laid s.threads t n → IsSystemOf w now system → IsGoneOn w (record s { system = system; known = None; steps = s.steps + 1 }) t n
  gone_on n system is stands = record { reached = reached system stands; started = is_started; next = is }

-- what its code comes to is kept
pub kept : (w : World) (s : RunState) (t : ℕ) (n : ToldNext) → IsGoneOn w s t n → IsReached w (record s { known = Some (record { thread = t; next = n }) })
kept w s t n gone = record {
  fit = gone.reached.fit;
  past = gone.reached.past;
  follows = gone.reached.follows;
  steps = gone.reached.steps;
  memory = gone.reached.memory;
  around = record {
    shown = record {
      threads = gone.reached.around.shown.threads;
      stamps = gone.reached.around.shown.stamps;
      book = gone.reached.around.shown.book;
      output = gone.reached.around.shown.output;
      system_output = gone.reached.around.shown.system_output;
    };
    system = gone.reached.around.system;
    interface = gone.reached.around.interface;
    functions = gone.reached.around.functions;
    prepared = gone.reached.around.prepared;
  };
  known = (gone.started, gone.next);
}

-- the system is as it was where the code goes on
pub keeps_system : (n : ToldNext) (s : SystemState) → ((v : ℕ) → n ≡ next.Ended v → ⊥) → KeepsSystem n s s
keeps_system (next.Ended v) s isnt = absurd (isnt v refl)
keeps_system (next.Wants side want) s isnt = refl

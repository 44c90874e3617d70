-- A thread that is tried.
use Rattle.std.proofs.Common.{◌≡◌, ◌≢◌, ℕ, ◌<◌, true, List, [], length, Option, Some, None, refl, sym, ap, ◌∙◌, subst, arith}
use Rattle.std.specs.Prelude.{reverse}
use Rattle.marks.specs.declared.side.Side.{Side}
use Rattle.marks.specs.Marks.{Mark}
use Rattle.marks.specs.Wants.{Want}
use Rattle.c_code.specs.Machine.{Laid}
use Rattle.c_code.specs.MarkLists.{Split, Wants, Ends, Wrong, lists, state, step}
use Rattle.c_code.specs.Typed.{AreArguments, CarriesValues}
use Rattle.system_side.specs.declared.threads.Standing.TheVariants.{Ready}
use Rattle.system_side.specs.Schedule.{wish_at}
use Rattle.system_side.specs.System.{SystemState}
use Rattle.whole_runs.specs.declared.ending.Ending.{Ending}
use Rattle.whole_runs.specs.World.{World}
use Rattle.whole_runs.specs.Sides.{own}
use Rattle.whole_runs.specs.Threads.{beginning, comes, ended_with}
use Rattle.whole_runs.specs.Picks.{asked, can_step, is_unblocked, may_go_on}
use Rattle.whole_runs.specs.Ends.{IsLast}
use Rattle.whole_runs_seen.proofs.Answered.{right_where_wanted}
use Rattle.whole_runs_seen.proofs.Threads.{AreThreads, args_at as args_with, begins_so, func_at, threads_known}
use Rattle.recorder_system.specs.Stands.{IsSystemOf, call_of, asked_by, next_asked}
use Rattle.recorder_system.specs.Calls.{HasInt}
use Rattle.recorder_system.proofs.Standing.{can_by, ready_there}
use Rattle.recorder_system.proofs.Values.{ints}
use Rattle.recorder_threads.specs.declared.wants.Want.{Want as Told}
use Rattle.recorder_threads.specs.declared.wants.Want.TheVariants as told
use Rattle.recorder_threads.specs.Threads.{args_at}
use Rattle.recorder_threads.specs.Wants.{IsTold, WantsTold}
use Rattle.recorder_threads.proofs.Places.{count_is}
use Rattle.recorder_state.specs.declared.state.RunState.{RunState}
use Rattle.recorder_state.specs.Stands.{IsReached}
use Rattle.recorder_state.specs.Ends.{IsEnded}
use Rattle.recorder_state.specs.Turns.{IsAtStep, IsTried, IsTrying, asked_func}

-- a run ends where it is
pub ends_here : (w : World) (s : RunState) (e : Ending) (r : IsReached w s) → IsLast w r.past [] e → IsEnded w s e
ends_here w s e r last = record {
  fit = r.fit;
  past = r.past;
  follows = r.follows;
  last = [];
  ends = last;
  spaces = r.memory.above.spaces;
  shown = r.around.shown;
}

-- the state with another system of the run
abbrev pub with_system : (w : World) (s : RunState) (system : SystemState) (r : IsReached w s) → IsSystemOf w r.past system → IsReached w (record s { system = system })
with_system w s system r stands = record {
  fit = r.fit;
  past = r.past;
  follows = r.follows;
  steps = r.steps;
  memory = r.memory;
  around = record {
    shown = record {
      threads = r.around.shown.threads;
      stamps = r.around.shown.stamps;
      book = r.around.shown.book;
      output = r.around.shown.output;
      system_output = r.around.shown.system_output;
    };
    system = stands;
    interface = r.around.interface;
    functions = r.around.functions;
    prepared = r.around.prepared;
  };
  known = r.known;
}

-- what is told of code that waits for no result
pub not_asked : (l : Laid) (args : List ℕ) (want : Want) (x : Told) → IsTold l args x want → asked_func x ≡ None → asked want ≡ None
not_asked l args want (told.Give g) is e = absurd cc
not_asked l args want (told.Step i g) is e = absurd cc
not_asked l args want told.Turn is e = ap asked is
not_asked l args want (told.Load at k) is e = ap asked is.1
not_asked l args want (told.Store at k v) is e = ap asked is.1
not_asked l args want (told.Enter i g size) is e = ap asked is.0
not_asked l args want told.Leave is e = ap asked is.2
not_asked l args want (told.Alloc k) is e = ap asked is
not_asked l args want (told.Free at) is e = ap asked is
not_asked l args want (told.Call i g) is e = ap asked is
not_asked l args want (told.Return g v) is e = ap asked is
not_asked l args want (told.CallBack g size) is e = ap asked is.0
not_asked l args want (told.UpReturn v) is e = ap asked is.1
not_asked l args want (told.Fault k) is e = ap asked is.1

abbrev number_in : ℕ → Option ℕ → ℕ
number_in d None = d
number_in d (Some x) = x

module _ (w : World) (s : RunState) (t : ℕ) (h : IsTried w s t) where
  abbrev r : IsReached w s
  r = h.trying.reached

  abbrev past : List Mark
  past = r.past

  abbrev args : List ℕ
  args = args_at s.threads t

  pub is_started : t < length s.threads
  is_started = let lt = h.started in let n = count_is w past s.threads r.around.shown.threads in omega (arith, lt, n)

  -- it has not ended
  pub goes_on : (v : ℕ) → comes w past t ≡ Ends v → ⊥
  goes_on v e = some_none v (sym (ap ended_with e) ∙ r.around.system.threads t Ready (ready_there s.system.threads t h.ready))
    where
      some_none : (v : ℕ) → ◌≡◌ {A = Option ℕ} (Some v) None → ⊥
      some_none v z = absurd cc

  known : AreThreads w past
  known = threads_known w r.fit.code past r.follows

  module _ (side : Side) (said : Told) (n : WantsTold w.laid args side said (comes w past t)) where
    carries : CarriesValues w.laid n.want
    carries =
        r.fit.code.typed.wants (func_at w past t) (args_with w past t) (own w t past) side n.want n.to (known.well t h.started)
        (subst (λ c. lists Split (reverse (own w t past)) w.laid c ≢ Wrong) (begins_so w past t)
        (right_where_wanted Split w.laid (beginning w past t) (own w t past) (known.go_on t h.started) side n.want n.to n.wants))
        (subst (λ c. step Split w.laid (state Split w.laid c (own w t past)) ≡ Wants side n.want n.to) (begins_so w past t) n.wants)

    same : (f g : ℕ) → ◌≡◌ {A = Option ℕ} (Some g) (Some f) → g ≡ f
    same f g e = ap (number_in g) e

    asked_so : (x : Told) → IsTold w.laid args x n.want → (f : ℕ) → asked_func x ≡ Some f → asked n.want ≡ Some (call_of f args)
    asked_so (told.Give g) is f e = ap asked is ∙ ap (λ k. Some (call_of k args)) (same f g e)
    asked_so (told.Step i g) is f e = ap asked is ∙ ap (λ k. Some (call_of k args)) (same f g e)
    asked_so told.Turn is f e = absurd cc
    asked_so (told.Load at k) is f e = absurd cc
    asked_so (told.Store at k v) is f e = absurd cc
    asked_so (told.Enter i g size) is f e = absurd cc
    asked_so told.Leave is f e = absurd cc
    asked_so (told.Alloc k) is f e = absurd cc
    asked_so (told.Free at) is f e = absurd cc
    asked_so (told.Call i g) is f e = absurd cc
    asked_so (told.Return g v) is f e = absurd cc
    asked_so (told.CallBack g size) is f e = absurd cc
    asked_so (told.UpReturn v) is f e = absurd cc
    asked_so (told.Fault k) is f e = absurd cc

    ints_so : (x : Told) → IsTold w.laid args x n.want → (f : ℕ) → asked_func x ≡ Some f → AreArguments w.laid f args
    ints_so (told.Give g) is f e = subst (λ k. AreArguments w.laid k args) (same f g e) (subst (CarriesValues w.laid) is carries)
    ints_so (told.Step i g) is f e = subst (λ k. AreArguments w.laid k args) (same f g e) (subst (CarriesValues w.laid) is carries)
    ints_so told.Turn is f e = absurd cc
    ints_so (told.Load at k) is f e = absurd cc
    ints_so (told.Store at k v) is f e = absurd cc
    ints_so (told.Enter i g size) is f e = absurd cc
    ints_so told.Leave is f e = absurd cc
    ints_so (told.Alloc k) is f e = absurd cc
    ints_so (told.Free at) is f e = absurd cc
    ints_so (told.Call i g) is f e = absurd cc
    ints_so (told.Return g v) is f e = absurd cc
    ints_so (told.CallBack g size) is f e = absurd cc
    ints_so (told.UpReturn v) is f e = absurd cc
    ints_so (told.Fault k) is f e = absurd cc

    pub are_ints : (f : ℕ) → asked_func said ≡ Some f → HasInt f args
    are_ints f e = ints w.laid f args r.fit.code.valid (ints_so said n.is_told f e)

    pub calls : (f : ℕ) → asked_func said ≡ Some f → asked_by w past t ≡ Some (call_of f args)
    calls f e = ap next_asked n.wants ∙ asked_so said n.is_told f e

    pub can_plainly : asked_func said ≡ None → can_step w past t ≡ true
    can_plainly e =
        can_by w past t h.started
        ∙ (ap (λ x. may_go_on w past t x) n.wants ∙ ap (is_unblocked w past t) (not_asked w.laid args n.want said n.is_told e))

    pub at_step : (system : SystemState) → IsSystemOf w past system → can_step w past t ≡ true → IsAtStep w (record s { system = system }) t side said
    at_step system stands can = record {
      reached = with_system w s system r stands;
      step = record {
        goes_on = h.trying.goes_on;
        thread = t;
        picked = h.steps_if can;
        side = side;
        want = n.want;
        to = n.to;
        comes_is = n.wants;
      };
      thread = refl;
      side_is = refl;
      told = n.is_told;
    }

  pub still_trying : (system : SystemState) → IsSystemOf w past system → IsTrying w (record s { system = system })
  still_trying system stands = record { reached = with_system w s system r stands; goes_on = h.trying.goes_on }

-- the wish is that of the system too
pub wished : (w : World) (s : RunState) (r : IsReached w s) (wish : ℕ) → wish ≡ wish_at w.file.schedule s.steps → wish ≡ wish_at s.system.schedule (length r.past)
wished w s r wish e = e ∙ (ap (λ n. wish_at w.file.schedule n) r.steps ∙ ap (λ items. wish_at items (length r.past)) (sym r.around.system.schedule))

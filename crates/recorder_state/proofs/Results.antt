-- A step in which a call comes to its result.
use Rattle.std.proofs.Common.{◌≡◌, ℕ, ◌<◌, inl, inr, true, false, ◌&&◌, not, eqb, List, [], ◌∷◌, length, Some, None, refl, sym, ap, ◌∙◌, subst, eqb-true, get_or, arith}
use Rattle.marks.specs.Marks.{Mark}
use Rattle.marks.specs.Wants.{Want, Outside, Turns, Loads, Stores, Enters, Leaves, Allocs, Frees, Calls, Below, Gives, Returns, CallsBack, UpReturns, Steps, Fails, Answer, Go, Value}
use Rattle.c_builtins.specs.declared.builtin.Builtin.TheVariants.{Spawn}
use Rattle.c_builtins.specs.Table.{number_of}
use Rattle.c_code.specs.Machine.{Laid}
use Rattle.c_machine.specs.Moves.{ThreadState}
use Rattle.system_side.specs.Threads.{has_not_ended}
use Rattle.system_side.specs.System.{SystemState}
use Rattle.whole_runs.specs.World.{World}
use Rattle.whole_runs.specs.Outcomes.{act_outcome, builtin_of, is_start, minus_one, outcome, started}
use Rattle.whole_runs.specs.Picks.{Asked, asked, can_step, is_free}
use Rattle.whole_runs.specs.Below.{Says, given}
use Rattle.whole_runs_seen.specs.Suits.{Suits}
use Rattle.whole_runs_threads.proofs.Suits.{answers_suit}
use Rattle.recorder_threads.specs.Threads.{AreInside, AreThreadsOf, args_at}
use Rattle.recorder_threads.specs.Answers.{IsAnswered, IsNoCall, IsPlain, IsStart}
use Rattle.recorder_threads.proofs.Answering.{below}
use Rattle.recorder_threads.proofs.Places.{count_is}
use Rattle.whole_runs_threads.proofs.Own.{numbered_so, started_on}
use Rattle.c_code.specs.Valid.{IsValid}
use Rattle.std.proofs.lemmas.Bool.{and_parts}
use Rattle.recorder_system.specs.Calls.{HasInt, IsOutcome, Notes}
use Rattle.recorder_system.proofs.Noted.{none_apart}
use Rattle.recorder_system.proofs.Runs.{started_by}
use Rattle.recorder_system.proofs.Values.{ints}
use Rattle.recorder_state.specs.declared.state.RunState.{RunState}
use Rattle.recorder_state.specs.Plain.{IsMarkedStep, IsResult, IsResultStep, IsStepTold, starts_thread}
use Rattle.recorder_state.proofs.Going.{follows_so, no_call_result}
use Rattle.recorder_state.proofs.PlainSteps.{picked_can, picked_runs}
use Rattle.recorder_state.proofs.Called.{IsCalled, called, spawn_number, spawn_takes}

module _ (w : World) (s : RunState) (t func result : ℕ) (x : Answer) (h : IsResultStep w s t func result x) where
  abbrev d : IsMarkedStep w s t
  d = h.marked

  abbrev m : Mark
  m = d.mark

  abbrev args : List ℕ
  args = args_at s.threads t

  abbrev pub of_thread : m.thread ≡ t
  of_thread = d.made.mark.of_thread ∙ d.thread

  abbrev pub known : IsCalled w d.fit d.past d.follows d.step func args result
  known = called w d.fit d.past d.follows d.step func args result m d.made (subst (λ u. act_outcome u m.act ≡ Some (outcome u func args result)) (sym d.thread) h.outcome_is)

  abbrev pub comes_so : act_outcome m.thread m.act ≡ Some (outcome t func args result)
  comes_so = subst (λ u. act_outcome u m.act ≡ Some (outcome t func args result)) (sym of_thread) h.outcome_is

  pub is_outcome : IsOutcome w d.past t func args m
  is_outcome = record {
    of_thread = of_thread;
    can = subst (λ u. can_step w d.past u ≡ true) d.thread (picked_can w d.past d.step);
    free = subst (λ u. is_free w d.past u args (builtin_of func) ≡ true) d.thread known.free;
    result = result;
    outcome_is = comes_so;
    starts = λ z. subst (λ u. given w d.past u func args ≡ Says result []) d.thread (known.starts z);
  }

  pub runs : has_not_ended s.system.threads t ≡ true
  runs = subst (λ u. has_not_ended s.system.threads u ≡ true) d.thread (picked_runs w d.past d.step s.system h.system)

  pub are_ints : HasInt func args
  are_ints = ints w.laid func args d.fit.code.valid known.values

  abbrev pub is_answered : IsAnswered w.laid s.threads t IsNoCall x
  is_answered = record {
    world = w;
    laid = refl;
    fit = d.fit;
    past = d.past;
    stand = h.threads;
    mark = m;
    of_thread = of_thread;
    follows = follows_so w d.past m d.step d.made d.room d.follows;
    wanted = no_call_result d.step.side d.step.want m x t (outcome t func args result) h.outcome_is h.answers;
    answers = h.answers;
  }

  pub is_started : t < length s.threads
  is_started = below w.laid s.threads t IsNoCall x is_answered

  pub step_told : (threads : List ThreadState) (system : SystemState) → AreThreadsOf w (m ∷ d.past) threads → Notes t func args s.system system → has_not_ended system.threads t ≡ true → IsStepTold w (record s { threads = threads; system = system }) t
  step_told threads system stand notes running = record {
    marked = record {
      fit = d.fit;
      past = d.past;
      follows = d.follows;
      steps = d.steps;
      step = d.step;
      thread = d.thread;
      mark = m;
      made = d.made;
      room = d.room;
      others = record {
        memory = d.others.memory;
        stamps = d.others.stamps;
        book = d.others.book;
        output = d.others.output;
        system_output = d.others.system_output;
        interface = d.others.interface;
        functions = d.others.functions;
        prepared = d.others.prepared;
      };
    };
    threads = stand;
    system = notes w d.past m is_outcome h.system;
    running = running;
  }

-- where the code is given the result
abbrev pub is_result : (w : World) (s : RunState) (t func result : ℕ) → IsResultStep w s t func result (Value result) → IsResult w.laid s.threads t func result
is_result w s t func result h = record {
  next = is_answered w s t func result (Value result) h;
  comes = comes_so w s t func result (Value result) h;
  values = (known w s t func result (Value result) h).values;
}

-- where it is given no more, the function has a body, and starts no thread
not_start : (t func result : ℕ) (args : List ℕ) → builtin_of func ≡ None → is_start (outcome t func args result) ≡ false
not_start t func result xs none = ap (λ b. b && not (eqb result minus_one)) (none_apart func (number_of Spawn) Spawn none refl)

pub go_no_ask : (l : Laid) (want : Want) (a : Asked) → asked want ≡ Some a → Suits l want Go → ⊥
go_no_ask l (Gives f bs) a e h = h
go_no_ask l (Steps i f bs) a e h = h
go_no_ask l Outside a e h = absurd cc
go_no_ask l Turns a e h = absurd cc
go_no_ask l (Loads o at n) a e h = absurd cc
go_no_ask l (Stores o at bytes) a e h = absurd cc
go_no_ask l (Enters i f bs bytes) a e h = absurd cc
go_no_ask l (Leaves at n) a e h = absurd cc
go_no_ask l (Allocs n) a e h = absurd cc
go_no_ask l (Frees at) a e h = absurd cc
go_no_ask l (Calls i f bs) a e h = absurd cc
go_no_ask l (Below f bs) a e h = absurd cc
go_no_ask l (Returns f bs v) a e h = absurd cc
go_no_ask l (CallsBack f bs bytes) a e h = absurd cc
go_no_ask l (UpReturns f v) a e h = absurd cc
go_no_ask l (Fails kind) a e h = absurd cc

pub starts_none : (w : World) (s : RunState) (t func result : ℕ) (h : IsResultStep w s t func result Go) → started (h.marked.mark ∷ h.marked.past) ≡ started h.marked.past
starts_none w s t func result h = started_by h.marked.past h.marked.mark (outcome t func (args_at s.threads t) result) false (comes_so w s t func result Go h) (not_start t func result (args_at s.threads t) none)
  where
    none : builtin_of func ≡ None
    none = elim (known w s t func result Go h).asked_or_body [
      | inl e ↦ absurd (go_no_ask w.laid h.marked.step.want _ e (answers_suit w h.marked.fit h.marked.past h.marked.follows h.marked.step h.marked.mark h.marked.made Go h.answers))
      | inr e ↦ e
    ]

abbrev pub is_back_plain : (w : World) (s : RunState) (t func result : ℕ) → IsResultStep w s t func result Go → IsPlain w.laid s.threads t IsNoCall Go
is_back_plain w s t func result h = record { next = is_answered w s t func result Go h; alone = starts_none w s t func result h }

-- ---- the thread that is given a result

module _ (l : Laid) (threads : List ThreadState) (t func v : ℕ) (a : IsResult l threads t func v) where
  abbrev xs : List ℕ
  xs = args_at threads t

  pub there : t < length threads
  there = below l threads t IsNoCall (Value v) a.next

  -- it goes on
  abbrev pub goes_plainly : starts_thread func v ≡ false → IsPlain l threads t IsNoCall (Value v)
  goes_plainly none = record {
    next = a.next;
    alone = started_by a.next.past a.next.mark (outcome t func xs v) false a.comes none;
  }

  -- or starts one more
  pub takes_two : starts_thread func v ≡ true → xs ≡ get_or xs 0 0 ∷ get_or xs 1 0 ∷ []
  takes_two starts =
      let q = and_parts (eqb func spawn_number) (not (eqb v minus_one)) starts in
      spawn_takes l (subst (λ (k : Laid). IsValid k.code) a.next.laid a.next.fit.code.valid) func xs (eqb-true func spawn_number q.0) a.values

  abbrev pub starts_one : starts_thread func v ≡ true → (address argument : ℕ) → xs ≡ address ∷ argument ∷ [] → IsStart l threads t address argument
  starts_one starts address argument e =
      let b = a.next in
      let number : v ≡ length threads = numbered_so b.world b.fit.code b.past b.mark b.follows (outcome t func xs v) a.comes starts ∙ sym (count_is b.world b.past threads b.stand) in
      record {
        next = record {
          world = b.world;
          laid = b.laid;
          fit = b.fit;
          past = b.past;
          stand = b.stand;
          mark = b.mark;
          of_thread = b.of_thread;
          follows = b.follows;
          wanted = b.wanted;
          answers = b.answers ∙ ap (λ n. Some (Value n)) number;
        };
        outcome = outcome t func xs v;
        comes = a.comes;
        starts = starts;
        with_args = e;
      }

  abbrev pub starts_so : starts_thread func v ≡ true → (args : List ℕ) → args ≡ xs → IsStart l threads t (get_or args 0 0) (get_or args 1 0)
  starts_so starts args e = starts_one starts (get_or args 0 0) (get_or args 1 0) (takes_two starts ∙ (λ i. get_or (sym e i) 0 0 ∷ get_or (sym e i) 1 0 ∷ []))

  -- after the mark it is there as before, and all threads wait inside their code
  pub there_then : (after : List ThreadState) → AreThreadsOf a.next.world (a.next.mark ∷ a.next.past) after → t < length after
  there_then after stand =
      let lt = there in
      let before = count_is a.next.world a.next.past threads a.next.stand in
      let now = count_is a.next.world (a.next.mark ∷ a.next.past) after stand in
      let on = started_on a.next.past a.next.mark in
      omega (arith, lt, before, now, on)

  pub inside_then : (after : List ThreadState) → AreThreadsOf a.next.world (a.next.mark ∷ a.next.past) after → AreInside l after
  inside_then after stand = subst (λ (k : Laid). AreInside k after) a.next.laid stand.inside

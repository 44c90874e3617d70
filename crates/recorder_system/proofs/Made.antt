-- The mark of a step in which a call comes to its result.
use Rattle.std.proofs.Common.{◌≡◌, ℕ, ◌≤◌, Bool, true, false, cond, ◌&&◌, not, eqb, leb, List, [], ◌++◌, Option, Some, None, refl, sym, ap, ◌∙◌, subst, arith, eqb-true}
use Rattle.std.specs.Prelude.{is_some}
use Rattle.std.proofs.lemmas.Bool.{and_parts, true≢false}
use Rattle.std.proofs.lemmas.Option.{slice_get_past}
use Rattle.c_builtins.specs.declared.lookup.TheConstants.{BUILTINS}
use Rattle.marks.specs.declared.side.Side.{Side}
use Rattle.marks.specs.Places.{builtin_count, thread_count}
use Rattle.marks.specs.Marks.{EventKind, Call, Ret, Up, UpRet, Alloc, Free, Stop, Act, Turn, Load, Store, Enter, Leave, Step, Fault, Made, Mark, side_of, released}
use Rattle.marks.specs.Wants.{Want, Outside, Turns, Loads, Stores, Enters, Leaves, Allocs, Frees, Calls, Below, Gives, Returns, CallsBack, UpReturns, Steps, Fails, Answer, Stopped, answer_if, answer_to, event_answer, same_numbers}
use Rattle.c_builtins.specs.declared.builtin.Builtin.TheVariants.{Spawn}
use Rattle.c_builtins.specs.Table.{number_of}
use Rattle.c_code.specs.MarkLists.{reply, same_side}
use Rattle.replay_runs.proofs.Replies.{same_numbers_true}
use Rattle.whole_runs.specs.World.{World}
use Rattle.whole_runs.specs.Outcomes.{Outcome, act_outcome, builtin_of, event_outcome, minus_one, outcome, started}
use Rattle.whole_runs.specs.Threads.{comes}
use Rattle.whole_runs.specs.Picks.{Asked, asked, can_step, is_free}
use Rattle.whole_runs.specs.Below.{Says, given, given_by}
use Rattle.whole_runs.specs.Steps.{Picked, Agrees, EventAgrees, BringsGiven, GivesStep, IsStep, StepOf}
use Rattle.recorder_system.specs.Stands.{asked_by, call_of, next_asked}
use Rattle.recorder_system.specs.Laws.{ReturnsFromSource, StepsAreOutcomes}
use Rattle.recorder_system.proofs.Lists.{found_passes}
use Rattle.recorder_system.proofs.Standing.{can_by, can_started, may_by}

abbrev spawn_number : ℕ
spawn_number = number_of Spawn

some_if : (b : Bool) (a : Answer) → is_some (answer_if b a) ≡ true → b ≡ true
some_if true a e = refl
some_if false a e = absurd (true≢false (sym e))

answers : (side : Side) (want : Want) (m : Mark) → is_some (reply side want m) ≡ true → is_some (answer_to want m.act) ≡ true
unfolding reply
answers side want m h = go (same_side (side_of side m.act) m.side) h
  where
    go : (b : Bool) → is_some (cond b (answer_to want m.act) None) ≡ true → is_some (answer_to want m.act) ≡ true
    go true e = e
    go false e = absurd (true≢false (sym e))

same_call : (f g : ℕ) (args bs : List ℕ) → (eqb g f && same_numbers bs args) ≡ true → call_of f args ≡ call_of g bs
same_call f g args bs e =
    let q = and_parts (eqb g f) (same_numbers bs args) e in
    sym (ap (λ k. call_of k bs) (eqb-true g f q.0) ∙ ap (call_of f) (same_numbers_true bs args q.1))

free_by : (w : World) (past : List Mark) (t f : ℕ) (args : List ℕ) → asked_by w past t ≡ Some (call_of f args) → can_step w past t ≡ true → is_free w past t args (builtin_of f) ≡ true
free_by w past t f args e can = sym (may_by w past t (comes w past t) (call_of f args) e) ∙ (sym (can_by w past t (can_started w past t can)) ∙ can)

module _ (w : World) (past : List Mark) (s : Picked w past) (source : ReturnsFromSource w past s) where
  can : can_step w past s.thread ≡ true
  can = found_passes (can_step w past) _ s.thread s.picked

  -- what holds of the call that comes to this result
  record Comes (f : ℕ) (args : List ℕ) (v : ℕ) : Type 0 where
    free : is_free w past s.thread args (builtin_of f) ≡ true
    starts : f ≡ spawn_number → given w past s.thread f args ≡ Says v []

  asks : (want : Want) (a : Asked) → s.want ≡ want → asked want ≡ Some a → asked_by w past s.thread ≡ Some a
  asks want a e k = ap next_asked s.comes_is ∙ (ap asked e ∙ k)

  abbrev spawn_gives : ℕ
  spawn_gives = cond (leb thread_count (started past)) minus_one (started past)

  given_spawn : (f : ℕ) (args : List ℕ) → f ≡ spawn_number → given w past s.thread f args ≡ Says spawn_gives []
  given_spawn f args e = ap (λ g. given_by w past s.thread f args (builtin_of g)) e

  -- one step below the cut
  step_starts : (x : StepOf) → IsStep w past s.thread x (builtin_of x.func) → x.func ≡ spawn_number → given w past s.thread x.func x.args ≡ Says x.result []
  step_starts x h e =
      let so : GivesStep w past x (given w past s.thread x.func x.args) = subst (λ o. IsStep w past s.thread x o) (ap builtin_of e) h in
      let is = subst (GivesStep w past x) (given_spawn x.func x.args e) so in
      given_spawn x.func x.args e ∙ ap (λ v. Says v []) (sym is.result_is)

  by_step : (want : Want) → s.want ≡ want → (x : StepOf) → is_some (answer_to want (Step x.func x.args x.result x.ins x.pieces x.freed)) ≡ true → IsStep w past s.thread x (builtin_of x.func) → Comes x.func x.args x.result
  unfolding answer_to
  by_step (Steps i f args) is x e h = record {
    free = free_by w past s.thread x.func x.args (asks (Steps i f args) (call_of x.func x.args) is (ap Some (same_call f x.func args x.args (some_if (eqb x.func f && same_numbers x.args args) _ e)))) can;
    starts = step_starts x h;
  }
  by_step (Frees at) is x e h = absurd (never (not (eqb at 0)) e)
    where
      never : (b : Bool) → is_some (answer_if (b && false) Stopped) ≡ true → ⊥
      never true y = true≢false (sym y)
      never false y = true≢false (sym y)
  by_step Outside is x e h = absurd (true≢false (sym e))
  by_step Turns is x e h = absurd (true≢false (sym e))
  by_step (Loads o at n) is x e h = absurd (true≢false (sym e))
  by_step (Stores o at bytes) is x e h = absurd (true≢false (sym e))
  by_step (Enters i g bs bytes) is x e h = absurd (true≢false (sym e))
  by_step (Leaves at n) is x e h = absurd (true≢false (sym e))
  by_step (Allocs n) is x e h = absurd (true≢false (sym e))
  by_step (Calls i g bs) is x e h = absurd (true≢false (sym e))
  by_step (Below g bs) is x e h = absurd (true≢false (sym e))
  by_step (Gives g bs) is x e h = absurd (true≢false (sym e))
  by_step (Returns g bs u) is x e h = absurd (true≢false (sym e))
  by_step (CallsBack g bs bytes) is x e h = absurd (true≢false (sym e))
  by_step (UpReturns g u) is x e h = absurd (true≢false (sym e))
  by_step (Fails kind) is x e h = absurd (true≢false (sym e))

  -- a Ret
  no_builtin : (f : ℕ) → builtin_count ≤ f → builtin_of f ≡ None
  no_builtin f le = slice_get_past BUILTINS f (omega (arith, le))

  by_ret : (want : Want) → s.want ≡ want → (k : EventKind) (f : ℕ) (args : List ℕ) (v : ℕ) → event_outcome s.thread k ≡ Some (outcome s.thread f args v) → is_some (event_answer want k) ≡ true → EventAgrees w past s.thread want k → Comes f args v
  by_ret (Gives g bs) is (Ret f' args' v' same outs commit) f args v o e h =
      subst (λ (x : Outcome). Comes x.func x.args x.result) (ap (or_this (outcome s.thread f args v)) o)
      (let q = and_parts (eqb f' g) (same_numbers args' bs) (some_if (eqb f' g && same_numbers args' bs) _ e) in
      let func_is : f' ≡ g = eqb-true f' g q.0 in
      let args_are : args' ≡ bs = same_numbers_true args' bs q.1 in
      record {
        free = free_by w past s.thread f' args' (asks (Gives g bs) (call_of f' args') is (ap Some (same_call g f' bs args' (some_if (eqb f' g && same_numbers args' bs) _ e)))) can;
        starts = λ z.
            let brought : BringsGiven w past g bs v' (outs ++ released commit) (Says spawn_gives []) = subst (BringsGiven w past g bs v' (outs ++ released commit)) (given_spawn g bs (sym func_is ∙ z)) h in
            given_spawn f' args' z ∙ ap (λ u. Says u []) (sym brought.0);
      })
    where
      or_this : Outcome → Option Outcome → Outcome
      or_this x None = x
      or_this x (Some y) = y
  by_ret (Returns g bs u) is (Ret f' args' v' same outs commit) f args v o e h =
      subst (λ (x : Outcome). Comes x.func x.args x.result) (ap (or_this (outcome s.thread f args v)) o)
      (let q = and_parts (eqb f' g) (same_numbers args' bs && eqb v' u) (some_if (eqb f' g && (same_numbers args' bs && eqb v' u)) _ e) in
      let func_is : f' ≡ g = eqb-true f' g q.0 in
      let le : builtin_count ≤ f' = subst (λ n. builtin_count ≤ n) (sym func_is) (source g bs u is) in
      record {
        free = ap (is_free w past s.thread args') (no_builtin f' le);
        starts = λ z. absurd (omega (arith, le, z));
      })
    where
      or_this : Outcome → Option Outcome → Outcome
      or_this x None = x
      or_this x (Some y) = y
  by_ret (Below g bs) is (Ret f' args' v' same outs commit) f args v o e h = absurd h
  by_ret want is (Ret f' args' v' same outs commit) f args v o e h = absurd (true≢false (sym e))
  by_ret want is (Call g bs ins outs prepared) f args v o e h = absurd cc
  by_ret want is (Up g bs) f args v o e h = absurd cc
  by_ret want is (UpRet g u) f args v o e h = absurd cc
  by_ret want is (Alloc at size) f args v o e h = absurd cc
  by_ret want is (Free at size) f args v o e h = absurd cc
  by_ret want is (Stop fault) f args v o e h = absurd cc

  by_act : (a : Act) (f : ℕ) (args : List ℕ) (v : ℕ) → act_outcome s.thread a ≡ Some (outcome s.thread f args v) → is_some (answer_to s.want a) ≡ true → Agrees w past s.thread s.side s.want a → Comes f args v
  unfolding answer_to
  by_act (Step f' args' v' ins pieces freed) f args v o e h =
      subst (λ (x : Outcome). Comes x.func x.args x.result) (ap (or_this (outcome s.thread f args v)) o)
      (by_step s.want refl (record { func = f'; args = args'; result = v'; ins = ins; pieces = pieces; freed = freed }) e h)
    where
      or_this : Outcome → Option Outcome → Outcome
      or_this x None = x
      or_this x (Some y) = y
  by_act (Made ev) f args v o e h = by_ret s.want refl ev.kind f args v o e h
  by_act Turn f args v o e h = absurd cc
  by_act (Load p at bytes) f args v o e h = absurd cc
  by_act (Store p at bytes) f args v o e h = absurd cc
  by_act (Enter g bs at bytes) f args v o e h = absurd cc
  by_act (Leave at size) f args v o e h = absurd cc
  by_act (Fault kind c ins outs at) f args v o e h = absurd cc

pub made_outcomes : StepsAreOutcomes
made_outcomes w past s m f args v source h o =
    let here : act_outcome s.thread m.act ≡ Some (outcome s.thread f args v) = ap (λ t. act_outcome t m.act) (sym h.mark.of_thread) ∙ (o ∙ ap (λ t. Some (outcome t f args v)) h.mark.of_thread) in
    let x = by_act w past s source m.act f args v here (answers s.side s.want m h.replies) h.agrees in
    record {
      of_thread = h.mark.of_thread;
      can = can w past s source;
      free = x.free;
      result = v;
      outcome_is = o ∙ ap (λ t. Some (outcome t f args v)) h.mark.of_thread;
      starts = x.starts;
    }

-- What the threads of a run have done, as their own code sees it.
use Rattle.std.proofs.Common.{◌≡◌, ◌≢◌, ◌⊎◌, inl, inr, ⊎_elim, ℕ, zero, suc, ◌-◌, ◌<◌, ◌≤◌, Bool, true, false, cond, ◌&&◌, not, eqb, leb, ltb, List, [], ◌∷◌, ◌++◌, Option, Some, None, refl, sym, ap, ◌∙◌, subst, arith, eqb-true, eq-eqb}
use Rattle.std.specs.Prelude.{◌/◌, is_some, slice_get, find, reverse}
use Rattle.std.proofs.lemmas.Bool.{and_parts, true≢false, ltb-true, ltb-false, leb-false}
use Rattle.marks.specs.Marks.{EventKind, Call, Ret, Up, UpRet, Alloc, Free, Stop, Act, Turn, Load, Store, Enter, Leave, Step, Fault, Made, Mark, released}
use Rattle.marks.specs.Places.{function_address, builtin_count, thread_count}
use Rattle.marks.specs.Opens.{tail}
use Rattle.marks.specs.Wants.{Want, Outside, Turns, Loads, Stores, Enters, Leaves, Allocs, Frees, Calls, Below, Gives, Returns, CallsBack, UpReturns, Steps, Fails, Answer, Stopped, answer_if, answer_to, event_answer, same_numbers}
use Rattle.c_builtins.specs.declared.builtin.Builtin.TheVariants.{Spawn}
use Rattle.c_builtins.specs.Table.{number_of}
use Rattle.c_code.specs.declared.code.FuncInfo.{FuncInfo}
use Rattle.c_code.specs.declared.shape.Shape.TheVariants.{Pointer}
use Rattle.c_code.specs.Builtins.{prototypes, AreBuiltins}
use Rattle.c_code.specs.Values.{is_value}
use Rattle.c_code.specs.Frames.{are_values}
use Rattle.c_code.specs.Machine.{Laid, Config, Starting, func_of, entry_of, entry, callee, has_sig, first}
use Rattle.c_code.specs.MarkLists.{Split, Wants, has_entry, takes_values, reply, lists, step, state, Wrong}
use Rattle.c_code.specs.Valid.{IsValid, start_sig, IsStart}
use Rattle.c_code.specs.Typed.{AreArguments, CarriesValues, StartsWell}
use Rattle.replay_runs.specs.Runs.{is_fault}
use Rattle.replay_runs.proofs.Replies.{same_numbers_true}
use Rattle.whole_runs.specs.World.{World, main_of}
use Rattle.whole_runs.specs.Sides.{own}
use Rattle.whole_runs.specs.Outcomes.{builtin_of, Outcome, outcome, event_outcome, act_outcome, outcomes, minus_one, is_start, started, args_of, started_with}
use Rattle.whole_runs.specs.Threads.{beginning, comes}
use Rattle.whole_runs.specs.Picks.{can_step, may_go_on}
use Rattle.whole_runs.specs.Below.{Given, Says, given, given_by}
use Rattle.whole_runs.specs.Steps.{Picked, IsStep, GivesStep, StepOf, BringsGiven, Agrees, EventAgrees, IsMade}
use Rattle.whole_runs.specs.Ends.{Follows}
use Rattle.whole_runs.specs.Fits.{IsFitCode}
use Rattle.whole_runs_laws.proofs.Lasts.{some_if, answers_to}
use Rattle.whole_runs_seen.proofs.Answered.{GoesOn, AllGoOn, right_where_wanted}
use Rattle.whole_runs_seen.proofs.Entries.{Stands, IsOwn, wants_are_own}
use Rattle.whole_runs_seen.proofs.Stopping.{answers_lead}
use Rattle.whole_runs_seen.proofs.Outcomes.{starts, start_of, Numbered, one_more_start, no_more_start, same_start, new_start}

abbrev number_or : ℕ → Option ℕ → ℕ
number_or d None = d
number_or d (Some x) = x

-- ---- builtins in valid code

abbrev spawn_number : ℕ
spawn_number = number_of Spawn

-- the function with that number is `r2_spawn`
spawn_there : (fs : List FuncInfo) → AreBuiltins fs prototypes → (f : FuncInfo) × (slice_get fs spawn_number ≡ Some f) × (f.params ≡ Pointer ∷ Pointer ∷ []) × (f.entry ≡ None)
spawn_there [] h = absurd h
spawn_there (f ∷ []) h = absurd h.1
spawn_there (f ∷ (g ∷ [])) h = absurd h.1.1
spawn_there (f ∷ (g ∷ (k ∷ fs))) h = (k, refl, h.1.1.0.params, h.1.1.0.no_body)

abbrev second : List ℕ → ℕ
second xs = first (tail xs)

two_args : (args : List ℕ) → are_values (Pointer ∷ Pointer ∷ []) args ≡ true → (tail args ≡ second args ∷ []) × (is_value Pointer (second args) ≡ true)
two_args [] h = absurd (true≢false (sym h))
two_args (a ∷ []) h = absurd (true≢false (sym (and_parts (is_value Pointer a) false h).1))
two_args (a ∷ (b ∷ [])) h = (refl, (and_parts (is_value Pointer b) true (and_parts (is_value Pointer a) (is_value Pointer b && true) h).1).0)
two_args (a ∷ (b ∷ (c ∷ rest))) h = absurd (true≢false (sym (and_parts (is_value Pointer b) false (and_parts (is_value Pointer a) (is_value Pointer b && false) h).1).1))

module _ (l : Laid) (valid : IsValid l.code) where
  spawn_takes : (args : List ℕ) → AreArguments l spawn_number args → (tail args ≡ second args ∷ []) × (is_value Pointer (second args) ≡ true)
  spawn_takes args h =
      let s = spawn_there l.code.builtins valid.builtins in
      two_args args (subst (λ ps. are_values ps args ≡ true) s.2 (subst (λ o. takes_values o args ≡ true) s.1 h))

  spawn_has_no_body : has_entry (entry l spawn_number) ≡ false
  spawn_has_no_body =
      let s = spawn_there l.code.builtins valid.builtins in
      ap (λ o. has_entry (entry_of o)) s.1 ∙ ap has_entry s.3

  callee_sig : (address : ℕ) (f : ℕ) → callee l start_sig address ≡ Some f → has_sig start_sig (func_of l.code f) ≡ true
  callee_sig address f e = by (eqb address (function_address g)) (leb builtin_count g) e
    where
      g : ℕ
      g = (address - function_address 0) / 16

      go : (c : Bool) → has_sig start_sig (func_of l.code g) ≡ c → cond c (Some g) None ≡ Some f → has_sig start_sig (func_of l.code f) ≡ true
      go true d z = let same : g ≡ f = ap (number_or g) z in subst (λ k. has_sig start_sig (func_of l.code k) ≡ true) same d
      go false d z = absurd cc

      by : (a b : Bool) → cond (a && (b && has_sig start_sig (func_of l.code g))) (Some g) None ≡ Some f → has_sig start_sig (func_of l.code f) ≡ true
      by true true h = go (has_sig start_sig (func_of l.code g)) refl h
      by true false h = absurd cc
      by false b h = absurd cc

  -- a thread is started with an argument of its function
  starts_well : (args : List ℕ) → AreArguments l spawn_number args → StartsWell l (callee l start_sig (first args)) (tail args)
  starts_well args h = by (callee l start_sig (first args)) refl
    where
      k : (tail args ≡ second args ∷ []) × (is_value Pointer (second args) ≡ true)
      k = spawn_takes args h

      of_sig : (o : Option FuncInfo) (f : ℕ) → func_of l.code f ≡ o → has_sig start_sig o ≡ true → takes_values o (second args ∷ []) ≡ true
      of_sig None f e z = absurd cc
      of_sig (Some a) f e z =
          let start : IsStart a = valid.starts f a e (eqb-true a.sig start_sig z) in
          subst (λ ps. are_values ps (second args ∷ []) ≡ true) (sym start.0) (ap (λ b. b && true) k.1)

      by : (o : Option ℕ) → callee l start_sig (first args) ≡ o → StartsWell l o (tail args)
      by None e = tt
      by (Some f) e = subst (AreArguments l f) (sym k.0) (of_sig (func_of l.code f) f refl (callee_sig (first args) f e))

-- ---- what a thread begins with

abbrev cons_all : Option Outcome → List Outcome → List Outcome
cons_all None os = os
cons_all (Some o) os = o ∷ os

abbrev number_in : Option ℕ → ℕ
number_in None = 0
number_in (Some x) = x

abbrev pub func_at : World → List Mark → (thread : ℕ) → Option ℕ
func_at w past zero = Some (main_of w.laid.code)
func_at w past (suc t) = callee w.laid start_sig (first (started_with (suc t) past))

abbrev pub args_at : World → List Mark → (thread : ℕ) → List ℕ
args_at w past zero = []
args_at w past (suc t) = tail (started_with (suc t) past)

pub begins_so : (w : World) (past : List Mark) (t : ℕ) → beginning w past t ≡ Starting (func_at w past t) (args_at w past t)
begins_so w past zero = refl
begins_so w past (suc t) = refl

-- what is known of all threads after these marks
pub record AreThreads (w : World) (past : List Mark) : Type 0 where
  pub numbered : Numbered (outcomes past)
  pub few : started past ≤ thread_count
  pub silent : (t : ℕ) → started past ≤ t → own w t past ≡ []
  pub go_on : (t : ℕ) → t < started past → AllGoOn Split w.laid (beginning w past t) (own w t past)
  pub well : (t : ℕ) → t < started past → StartsWell w.laid (func_at w past t) (args_at w past t)

module _ (w : World) (code : IsFitCode w.laid) where
  abbrev l : Laid
  l = w.laid

  module _ (past : List Mark) (known : AreThreads w past) (s : Picked w past) where
    pub picked_started : s.thread < started past
    picked_started = ltb-true _ _ (and_parts (ltb s.thread (started past)) (may_go_on w past s.thread (comes w past s.thread)) (found_holds (can_step w past) _ s.thread s.picked)).0
      where
        found_holds : (p : ℕ → Bool) (xs : List ℕ) (x : ℕ) → find p xs ≡ Some x → p x ≡ true
        found_holds p [] x h = absurd cc
        found_holds p (y ∷ ys) x h = go (p y) refl h (λ e. found_holds p ys x e)
          where
            go : (b : Bool) → p y ≡ b → cond b (Some y) (find p ys) ≡ Some x → (find p ys ≡ Some x → p x ≡ true) → p x ≡ true
            go true e h on = subst (λ z. p z ≡ true) (ap number_in h) e
            go false e h on = on h

    -- the list of the picked thread's marks is right, and what it wants carries values
    pub right_there : lists Split (reverse (own w s.thread past)) l (Starting (func_at w past s.thread) (args_at w past s.thread)) ≢ Wrong
    right_there = subst (λ c. lists Split (reverse (own w s.thread past)) l c ≢ Wrong) (begins_so w past s.thread)
        (right_where_wanted Split l (beginning w past s.thread) (own w s.thread past) (known.go_on s.thread picked_started) s.side s.want s.to s.comes_is)

    pub wants_there : step Split l (state Split l (Starting (func_at w past s.thread) (args_at w past s.thread)) (own w s.thread past)) ≡ Wants s.side s.want s.to
    wants_there = subst (λ c. step Split l (state Split l c (own w s.thread past)) ≡ Wants s.side s.want s.to) (begins_so w past s.thread) s.comes_is

    pub carried : CarriesValues l s.want
    carried = code.typed.wants (func_at w past s.thread) (args_at w past s.thread) (own w s.thread past) s.side s.want s.to (known.well s.thread picked_started) right_there wants_there

    pub own_want : IsOwn l s.side s.want
    own_want = wants_are_own l (beginning w past s.thread) begins (own w s.thread past) s.side s.want s.to s.comes_is
      where
        begins : Stands l (beginning w past s.thread)
        begins = subst (Stands l) (sym (begins_so w past s.thread)) tt

    -- ---- what a mark starts

    abbrev Starts : Outcome → Type 0
    Starts o = is_start o ≡ true → (o.result ≡ started past) × AreArguments l spawn_number o.args × (started past < thread_count)

    spawned : (f : ℕ) → f ≡ spawn_number → builtin_of f ≡ Some Spawn
    spawned f e = ap builtin_of e

    abbrev spawn_gives : Given
    spawn_gives = Says (cond (leb 32 (started past)) minus_one (started past)) []

    given_spawn : (t f : ℕ) (args : List ℕ) → f ≡ spawn_number → given w past t f args ≡ spawn_gives
    given_spawn t f args e = ap (given_by w past t f args) (spawned f e)

    -- a start isn't refused, so there was room for it
    numbered_next : (v : ℕ) → v ≡ cond (leb 32 (started past)) minus_one (started past) → not (eqb v minus_one) ≡ true → (v ≡ started past) × (started past < thread_count)
    numbered_next v e n = go (leb 32 (started past)) refl e
      where
        go : (b : Bool) → leb 32 (started past) ≡ b → v ≡ cond b minus_one (started past) → (v ≡ started past) × (started past < thread_count)
        go true l z = absurd (true≢false (sym n ∙ ap not (eq-eqb v minus_one z)))
        go false l z = let k = leb-false 32 (started past) l in (z, omega (arith, k))

    same_args : (f g : ℕ) (args bs : List ℕ) → (eqb g f && same_numbers bs args) ≡ true → (g ≡ f) × (bs ≡ args)
    same_args f g args bs e = let q = and_parts (eqb g f) (same_numbers bs args) e in (eqb-true g f q.0, same_numbers_true bs args q.1)

    carried_args : (f g : ℕ) (args bs : List ℕ) → (g ≡ f) × (bs ≡ args) → AreArguments l f args → g ≡ spawn_number → AreArguments l spawn_number bs
    carried_args f g args bs (e, d) h z = subst (λ k. AreArguments l k bs) (sym e ∙ z) (subst (λ xs. AreArguments l f xs) (sym d) h)

    step_starts : (want : Want) → CarriesValues l want → (f : ℕ) (args : List ℕ) (v : ℕ) (s' : StepOf) → s' ≡ record { func = f; args = args; result = v; ins = s'.ins; pieces = s'.pieces; freed = s'.freed } →
        is_some (answer_to want (Step f args v s'.ins s'.pieces s'.freed)) ≡ true → IsStep w past s.thread s' (builtin_of s'.func) → Starts (outcome s.thread f args v)
    unfolding answer_to
    step_starts (Steps i g bs) carries f args v s' is e h started_is =
        let parts = and_parts (eqb f spawn_number) (not (eqb v minus_one)) started_is in
        let here : f ≡ spawn_number = eqb-true f spawn_number parts.0 in
        let func_is : s'.func ≡ f = ap (λ (x : StepOf). x.func) is in
        let given_so : GivesStep w past s' (given w past s.thread s'.func s'.args) = subst (λ o. IsStep w past s.thread s' o) (spawned s'.func (func_is ∙ here)) h in
        let given_this : GivesStep w past s' spawn_gives = subst (GivesStep w past s') (given_spawn s.thread s'.func s'.args (func_is ∙ here)) given_so in
        let result_is : v ≡ cond (leb 32 (started past)) minus_one (started past) = sym (ap (λ (x : StepOf). x.result) is) ∙ given_this.result_is in
        let next : (v ≡ started past) × (started past < thread_count) = numbered_next v result_is parts.1 in
        (next.0, carried_args g f bs args (same_args g f bs args (some_if (eqb f g && same_numbers args bs) _ e)) carries here, next.1)
    step_starts Outside carries f args v s' is e h z = absurd (true≢false (sym e))
    step_starts Turns carries f args v s' is e h z = absurd (true≢false (sym e))
    step_starts (Loads o at n) carries f args v s' is e h z = absurd (true≢false (sym e))
    step_starts (Stores o at bytes) carries f args v s' is e h z = absurd (true≢false (sym e))
    step_starts (Enters i g bs bytes) carries f args v s' is e h z = absurd (true≢false (sym e))
    step_starts (Leaves at n) carries f args v s' is e h z = absurd (true≢false (sym e))
    step_starts (Allocs n) carries f args v s' is e h z = absurd (true≢false (sym e))
    step_starts (Frees at) carries f args v s' is e h z = absurd (frees_not (not (eqb at 0)) e)
      where
        frees_not : (b : Bool) → is_some (answer_if (b && false) Stopped) ≡ true → ⊥
        frees_not true y = true≢false (sym y)
        frees_not false y = true≢false (sym y)
    step_starts (Calls i g bs) carries f args v s' is e h z = absurd (true≢false (sym e))
    step_starts (Below g bs) carries f args v s' is e h z = absurd (true≢false (sym e))
    step_starts (Gives g bs) carries f args v s' is e h z = absurd (true≢false (sym e))
    step_starts (Returns g bs u) carries f args v s' is e h z = absurd (true≢false (sym e))
    step_starts (CallsBack g bs bytes) carries f args v s' is e h z = absurd (true≢false (sym e))
    step_starts (UpReturns g u) carries f args v s' is e h z = absurd (true≢false (sym e))
    step_starts (Fails kind) carries f args v s' is e h z = absurd (true≢false (sym e))

    ret_starts : (want : Want) → s.want ≡ want → CarriesValues l want → (k : EventKind) (o : Outcome) → event_outcome s.thread k ≡ Some o → is_some (event_answer want k) ≡ true → EventAgrees w past s.thread want k → Starts o
    ret_starts (Gives g bs) want_is carries (Ret f args v same outs commit) o is e h started_is =
        let same_o : outcome s.thread f args v ≡ o = ap or_this is in
        subst (λ x. (x.result ≡ started past) × AreArguments l spawn_number x.args × (started past < thread_count)) same_o
        (let started_here : is_start (outcome s.thread f args v) ≡ true = ap is_start same_o ∙ started_is in
        let parts = and_parts (eqb f spawn_number) (not (eqb v minus_one)) started_here in
        let here : f ≡ spawn_number = eqb-true f spawn_number parts.0 in
        let same : (f ≡ g) × (args ≡ bs) = same_args g f bs args (some_if (eqb f g && same_numbers args bs) _ e) in
        let brought : BringsGiven w past g bs v (outs ++ released commit) spawn_gives = subst (BringsGiven w past g bs v (outs ++ released commit)) (given_spawn s.thread g bs (sym same.0 ∙ here)) h in
        let next : (v ≡ started past) × (started past < thread_count) = numbered_next v brought.0 parts.1 in
        (next.0, carried_args g f bs args same carries here, next.1))
      where
        or_this : Option Outcome → Outcome
        or_this None = o
        or_this (Some x) = x
    ret_starts (Returns g bs u) want_is carries (Ret f args v same outs commit) o is e h started_is =
        let same_o : outcome s.thread f args v ≡ o = ap or_this is in
        let started_here : is_start (outcome s.thread f args v) ≡ true = ap is_start same_o ∙ started_is in
        let parts = and_parts (eqb f spawn_number) (not (eqb v minus_one)) started_here in
        let here : f ≡ spawn_number = eqb-true f spawn_number parts.0 in
        let q = and_parts (eqb f g) (same_numbers args bs && eqb v u) (some_if (eqb f g && (same_numbers args bs && eqb v u)) _ e) in
        let body : has_entry (entry l g) ≡ true = (subst (IsOwn l s.side) want_is own_want).1 in
        absurd (true≢false (sym body ∙ (ap (λ k. has_entry (entry l k)) (sym (eqb-true f g q.0) ∙ here) ∙ spawn_has_no_body l code.valid)))
      where
        or_this : Option Outcome → Outcome
        or_this None = o
        or_this (Some x) = x
    ret_starts (Below g bs) want_is carries (Ret f args v same outs commit) o is e h z = absurd h
    ret_starts want want_is carries (Ret f args v same outs commit) o is e h z = absurd (true≢false (sym e))
    ret_starts want want_is carries (Call f args ins outs prepared) o is e h z = absurd cc
    ret_starts want want_is carries (Up f args) o is e h z = absurd cc
    ret_starts want want_is carries (UpRet f v) o is e h z = absurd cc
    ret_starts want want_is carries (Alloc at size) o is e h z = absurd cc
    ret_starts want want_is carries (Free at size) o is e h z = absurd cc
    ret_starts want want_is carries (Stop fault) o is e h z = absurd cc

    module _ (m : Mark) (h : IsMade w past s m) where
      -- the answer that the mark gives
      pub answer_of : (o : Option Answer) → reply s.side s.want m ≡ o → is_some o ≡ true → (x : Answer) × (reply s.side s.want m ≡ Some x)
      answer_of (Some x) e z = (x, e)
      answer_of None e z = absurd (true≢false (sym z))

      pub no_fault : (a : Act) → Agrees w past s.thread s.side s.want a → is_fault a ≡ 0
      no_fault Turn a = refl
      no_fault (Load o at bytes) a = refl
      no_fault (Store o at bytes) a = refl
      no_fault (Enter f args at bytes) a = refl
      no_fault (Leave at size) a = refl
      no_fault (Step f args v ins pieces freed) a = refl
      no_fault (Fault k c ins outs at) a = absurd a
      no_fault (Made e) a = refl

      goes_on : GoesOn (comes w past s.thread) m
      goes_on =
          let x = answer_of (reply s.side s.want m) refl h.replies in
          record {
            wanted = record { side = s.side; want = s.want; to = s.to; answer = x.0; wants = s.comes_is; answers = x.1 };
            leads = answers_lead s.side s.want m x.0 (no_fault m.act h.agrees) x.1;
          }

      started_by : (o : Outcome) → act_outcome s.thread m.act ≡ Some o → Starts o
      unfolding answer_to
      started_by o is = by m.act is (answers_to s.side s.want m h.replies) h.agrees
        where
          or_this : Option Outcome → Outcome
          or_this None = o
          or_this (Some x) = x

          by : (a : Act) → act_outcome s.thread a ≡ Some o → is_some (answer_to s.want a) ≡ true → Agrees w past s.thread s.side s.want a → Starts o
          by (Step f args v ins pieces freed) is e g =
              subst Starts (ap or_this is) (step_starts s.want carried f args v (record { func = f; args = args; result = v; ins = ins; pieces = pieces; freed = freed }) refl e g)
          by (Made ev) is e g = ret_starts s.want refl carried ev.kind o is e g
          by Turn is e g = absurd cc
          by (Load p at bytes) is e g = absurd cc
          by (Store p at bytes) is e g = absurd cc
          by (Enter f args at bytes) is e g = absurd cc
          by (Leave at size) is e g = absurd cc
          by (Fault k c ins outs at) is e g = absurd g

      -- the outcomes after it
      outcomes_now : (o : Option Outcome) → act_outcome m.thread m.act ≡ o → outcomes (m ∷ past) ≡ cons_all o (outcomes past)
      outcomes_now o e = ap (λ x. cons_all x (outcomes past)) e

      abbrev now : List Mark
      now = m ∷ past

      by_thread : act_outcome m.thread m.act ≡ act_outcome s.thread m.act
      by_thread = ap (λ t. act_outcome t m.act) h.mark.of_thread

      -- what there is of starts after it: as before, or one more
      data NextStarts : Type 0 where
        same : started now ≡ started past → ((t : ℕ) → t < started past → start_of t (outcomes now) ≡ start_of t (outcomes past)) → NextStarts
        more : (o : Outcome) → started now ≡ suc (started past) → started past < thread_count → AreArguments l spawn_number o.args → start_of (started past) (outcomes now) ≡ Some o →
            ((t : ℕ) → t < started past → start_of t (outcomes now) ≡ start_of t (outcomes past)) → NextStarts

      numbered_now : Numbered (outcomes now)
      numbered_now = go (act_outcome m.thread m.act) refl
        where
          go : (o : Option Outcome) → act_outcome m.thread m.act ≡ o → Numbered (outcomes now)
          go None e = subst Numbered (sym (outcomes_now None e)) known.numbered
          go (Some o) e = subst Numbered (sym (outcomes_now (Some o) e)) ((λ z. (started_by o (sym by_thread ∙ e) z).0), known.numbered)

      next_starts : NextStarts
      next_starts = go (act_outcome m.thread m.act) refl
        where
          go : (o : Option Outcome) → act_outcome m.thread m.act ≡ o → NextStarts
          go None e =
              let z = outcomes_now None e in
              same (ap (λ os. suc (starts os)) z) (λ t lt. ap (start_of t) z)
          go (Some o) e = by (is_start o) refl
            where
              z : outcomes now ≡ o ∷ outcomes past
              z = outcomes_now (Some o) e

              older : (t : ℕ) → t < started past → start_of t (outcomes now) ≡ start_of t (outcomes past)
              older t lt = ap (start_of t) z ∙ same_start o (outcomes past) t (λ y. (started_by o (sym by_thread ∙ e) y).0) lt

              by : (b : Bool) → is_start o ≡ b → NextStarts
              by false y = same (ap (λ os. suc (starts os)) z ∙ ap suc (no_more_start o (outcomes past) y)) older
              by true y =
                  let k = started_by o (sym by_thread ∙ e) y in
                  more o (ap (λ os. suc (starts os)) z ∙ ap suc (one_more_start o (outcomes past) y)) k.2 k.1 (ap (start_of (started past)) z ∙ new_start o (outcomes past) (started past) y k.0) older

      same_with : (t : ℕ) → start_of t (outcomes now) ≡ start_of t (outcomes past) → started_with t now ≡ started_with t past
      same_with t e = ap args_of e

      same_beginning : (t : ℕ) → start_of t (outcomes now) ≡ start_of t (outcomes past) → beginning w now t ≡ beginning w past t
      same_beginning zero e = refl
      same_beginning (suc t) e = ap (λ xs. Starting (callee l start_sig (first xs)) (tail xs)) (same_with (suc t) e)

      thread_started : m.thread < started past
      thread_started = subst (λ t. t < started past) (sym h.mark.of_thread) picked_started

      -- another thread's marks stay
      other_own : (t : ℕ) → m.thread ≢ t → own w t now ≡ own w t past
      other_own t n = go (eqb m.thread t) refl
        where
          go : (b : Bool) → eqb m.thread t ≡ b → cond b (m ∷ own w t past) (own w t past) ≡ own w t past
          go true e = absurd (n (eqb-true m.thread t e))
          go false e = refl

      still_silent : (t : ℕ) → started past ≤ t → own w t now ≡ []
      still_silent t le = other_own t (λ e. let k = thread_started in omega (arith, k, le, e)) ∙ known.silent t le

      older_go_on : (t : ℕ) → t < started past → start_of t (outcomes now) ≡ start_of t (outcomes past) → AllGoOn Split l (beginning w now t) (own w t now)
      older_go_on t lt kept = subst (λ c. AllGoOn Split l c (own w t now)) (sym (same_beginning t kept)) (go (eqb m.thread t) refl)
        where
          go : (b : Bool) → eqb m.thread t ≡ b → AllGoOn Split l (beginning w past t) (cond b (m ∷ own w t past) (own w t past))
          go false e = known.go_on t lt
          go true e =
              let here : s.thread ≡ t = sym h.mark.of_thread ∙ eqb-true m.thread t e in
              (subst (λ u. GoesOn (comes w past u) m) here goes_on, known.go_on t lt)

      older_well : (t : ℕ) → t < started past → start_of t (outcomes now) ≡ start_of t (outcomes past) → StartsWell l (func_at w now t) (args_at w now t)
      older_well zero lt kept = known.well zero lt
      older_well (suc t) lt kept = subst (λ xs. StartsWell l (callee l start_sig (first xs)) (tail xs)) (sym (same_with (suc t) kept)) (known.well (suc t) lt)

      new_well : (t : ℕ) (o : Outcome) → t ≡ started past → start_of t (outcomes now) ≡ Some o → AreArguments l spawn_number o.args → StartsWell l (func_at w now t) (args_at w now t)
      new_well zero o e z k = absurd cc
      new_well (suc t) o e z k = subst (λ xs. StartsWell l (callee l start_sig (first xs)) (tail xs)) (sym (ap args_of z)) (starts_well l code.valid o.args k)

      -- what holds of each thread's marks goes on to hold, where it does of this mark and of a thread that begins
      pub kept_along : (Q : Config → List Mark → Type 0) → ((t : ℕ) → t < started past → Q (beginning w past t) (own w t past)) → Q (beginning w past s.thread) (m ∷ own w s.thread past) →
          ((f : Option ℕ) (args : List ℕ) → Q (Starting f args) []) → (t : ℕ) → t < started now → Q (beginning w now t) (own w t now)
      kept_along Q each next begins t lt = by next_starts
        where
          by_mark : t < started past → (b : Bool) → eqb m.thread t ≡ b → Q (beginning w past t) (cond b (m ∷ own w t past) (own w t past))
          by_mark le false e = each t le
          by_mark le true e =
              let here : s.thread ≡ t = sym h.mark.of_thread ∙ eqb-true m.thread t e in
              subst (λ u. Q (beginning w past u) (m ∷ own w u past)) here next

          older_one : t < started past → start_of t (outcomes now) ≡ start_of t (outcomes past) → Q (beginning w now t) (own w t now)
          older_one le kept = subst (λ c. Q c (own w t now)) (sym (same_beginning t kept)) (by_mark le (eqb m.thread t) refl)

          new_one : started past ≤ t → Q (beginning w now t) (own w t now)
          new_one le = subst (λ c. Q c (own w t now)) (sym (begins_so w now t)) (subst (λ ms. Q (Starting (func_at w now t) (args_at w now t)) ms) (sym (still_silent t le)) (begins (func_at w now t) (args_at w now t)))

          by : NextStarts → Q (beginning w now t) (own w t now)
          by (same few older) = let le : t < started past = omega (arith, lt, few) in older_one le (older t le)
          by (more o few room args newest older) = go (ltb t (started past)) refl
            where
              go : (b : Bool) → ltb t (started past) ≡ b → Q (beginning w now t) (own w t now)
              go true e = let le : t < started past = ltb-true _ _ e in older_one le (older t le)
              go false e = new_one (ltb-false t (started past) e)

      now_known : AreThreads w now
      now_known = by next_starts
        where
          split : (t : ℕ) → t < suc (started past) → (t < started past) ⊎ (t ≡ started past)
          split t lt = go (ltb t (started past)) refl
            where
              go : (b : Bool) → ltb t (started past) ≡ b → (t < started past) ⊎ (t ≡ started past)
              go true e = inl (ltb-true _ _ e)
              go false e = let k = ltb-false t (started past) e in inr (omega (arith, lt, k))

          by : NextStarts → AreThreads w now
          by (same few older) = record {
            numbered = numbered_now;
            few = let k = known.few in omega (arith, k, few);
            silent = λ t le. still_silent t (omega (arith, le, few));
            go_on = λ t lt. let z : t < started past = omega (arith, lt, few) in older_go_on t z (older t z);
            well = λ t lt. let z : t < started past = omega (arith, lt, few) in older_well t z (older t z);
          }
          by (more o few room args newest older) = record {
            numbered = numbered_now;
            few = omega (arith, room, few);
            silent = λ t le. still_silent t (omega (arith, le, few));
            go_on = λ t lt. ⊎_elim (λ z. older_go_on t z (older t z)) (λ e. subst (λ ms. AllGoOn Split l (beginning w now t) ms) (sym (still_silent t (omega (arith, e)))) tt) (split t (omega (arith, lt, few)));
            well = λ t lt. ⊎_elim (λ z. older_well t z (older t z)) (λ e. new_well t o e (ap (λ u. start_of u (outcomes now)) e ∙ newest) args) (split t (omega (arith, lt, few)));
          }

  none_known : AreThreads w []
  none_known = record {
    numbered = tt;
    few = omega arith;
    silent = λ t le. refl;
    go_on = λ t lt. tt;
    well = begins;
  }
    where
      first_one : StartsWell l (Some (main_of l.code)) []
      first_one = subst (λ o. takes_values o [] ≡ true) (sym code.main.known) (subst (λ ps. are_values ps [] ≡ true) (sym code.main.params) refl)

      begins : (t : ℕ) → t < 1 → StartsWell l (func_at w [] t) (args_at w [] t)
      begins zero lt = first_one
      begins (suc t) lt = absurd (omega (arith, lt))

  -- so it is known of all threads, whatever steps a run made
  pub threads_known : (past : List Mark) → Follows w past → AreThreads w past
  threads_known [] f = none_known
  threads_known (m ∷ past) f = now_known past (threads_known past f.1) f.0.step m f.0.made

-- A call that comes to its result.
use Rattle.std.proofs.Common.{◌≡◌, ◌⊎◌, inl, inr, ℕ, zero, suc, Bool, true, false, cond, ◌&&◌, not, eqb, leb, List, [], ◌∷◌, ◌++◌, get_or, Option, Some, None, refl, sym, ap, ◌∙◌, subst, eqb-true}
use Rattle.std.specs.Prelude.{is_some, slice_get}
use Rattle.std.proofs.lemmas.Bool.{and_parts, true≢false}
use Rattle.marks.specs.declared.range.Range.{Range}
use Rattle.marks.specs.Ranges.{Piece}
use Rattle.marks.specs.Marks.{EventKind, Call, Ret, Up, UpRet, Alloc, Free, Stop, Act, Turn, Load, Store, Enter, Leave, Step, Fault, Made, Mark, released}
use Rattle.marks.specs.Wants.{Want, Outside, Turns, Loads, Stores, Enters, Leaves, Allocs, Frees, Calls, Below, Gives, Returns, CallsBack, UpReturns, Steps, Fails, Stopped, answer_if, answer_to, event_answer, same_numbers}
use Rattle.c_builtins.specs.declared.builtin.Builtin.TheVariants.{Spawn}
use Rattle.c_builtins.specs.Table.{number_of}
use Rattle.c_code.specs.declared.code.FuncInfo.{FuncInfo}
use Rattle.c_code.specs.Builtins.{Prototype, prototypes, AreBuiltins}
use Rattle.c_code.specs.declared.shape.Shape.TheVariants.{Pointer}
use Rattle.c_code.specs.Values.{is_value}
use Rattle.c_code.specs.Frames.{are_values}
use Rattle.c_code.specs.Machine.{Laid, entry, entry_of}
use Rattle.c_code.specs.MarkLists.{has_entry, takes_values}
use Rattle.c_code.specs.Valid.{IsValid}
use Rattle.c_code.specs.Typed.{AreArguments, CarriesValues}
use Rattle.replay_runs.proofs.Replies.{same_numbers_true}
use Rattle.whole_runs.specs.World.{World}
use Rattle.whole_runs.specs.Outcomes.{Outcome, act_outcome, builtin_of, event_outcome, minus_one, outcome, started}
use Rattle.whole_runs.specs.Threads.{comes}
use Rattle.whole_runs.specs.Picks.{asked, is_free}
use Rattle.whole_runs.specs.Below.{Says, given, given_by}
use Rattle.whole_runs.specs.Steps.{Picked, IsMade, IsStep, GivesStep, StepOf, BringsGiven, Agrees, EventAgrees}
use Rattle.whole_runs.specs.Ends.{Follows}
use Rattle.whole_runs.specs.Fits.{IsFit}
use Rattle.whole_runs_laws.proofs.Lasts.{some_if, answers_to}
use Rattle.whole_runs_seen.proofs.Entries.{IsOwn}
use Rattle.whole_runs_seen.proofs.Threads.{AreThreads, carried, own_want, picked_started, threads_known}
use Rattle.recorder_system.specs.Stands.{call_of, next_asked}
use Rattle.recorder_system.proofs.Standing.{can_by, may_by}
use Rattle.recorder_state.proofs.PlainSteps.{picked_can}

abbrev pub spawn_number : ℕ
spawn_number = number_of Spawn

entries : (fs : List FuncInfo) (ps : List Prototype) → AreBuiltins fs ps → (k : ℕ) → has_entry (entry_of (slice_get fs k)) ≡ false
entries [] [] h k = refl
entries [] (p ∷ ps) h k = absurd h
entries (f ∷ fs) [] h k = absurd h
entries (f ∷ fs) (p ∷ ps) h zero = ap has_entry h.0.no_body
entries (f ∷ fs) (p ∷ ps) h (suc k) = entries fs ps h.1 k

-- a function with a body is no builtin
no_builtin : (l : Laid) → IsValid l.code → (g : ℕ) → has_entry (entry l g) ≡ true → builtin_of g ≡ None
no_builtin l v zero e = absurd (true≢false (sym e ∙ entries l.code.builtins prototypes v.builtins 0))
no_builtin l v (suc zero) e = absurd (true≢false (sym e ∙ entries l.code.builtins prototypes v.builtins 1))
no_builtin l v (suc (suc zero)) e = absurd (true≢false (sym e ∙ entries l.code.builtins prototypes v.builtins 2))
no_builtin l v (suc (suc (suc zero))) e = absurd (true≢false (sym e ∙ entries l.code.builtins prototypes v.builtins 3))
no_builtin l v (suc (suc (suc (suc zero)))) e = absurd (true≢false (sym e ∙ entries l.code.builtins prototypes v.builtins 4))
no_builtin l v (suc (suc (suc (suc (suc zero))))) e = absurd (true≢false (sym e ∙ entries l.code.builtins prototypes v.builtins 5))
no_builtin l v (suc (suc (suc (suc (suc (suc zero)))))) e = absurd (true≢false (sym e ∙ entries l.code.builtins prototypes v.builtins 6))
no_builtin l v (suc (suc (suc (suc (suc (suc (suc g))))))) e = refl

-- `r2_spawn` takes two arguments
spawn_there : (fs : List FuncInfo) → AreBuiltins fs prototypes → (f : FuncInfo) × (slice_get fs spawn_number ≡ Some f) × (f.params ≡ Pointer ∷ Pointer ∷ [])
spawn_there [] h = absurd h
spawn_there (f ∷ []) h = absurd h.1
spawn_there (f ∷ (g ∷ [])) h = absurd h.1.1
spawn_there (f ∷ (g ∷ (k ∷ fs))) h = (k, refl, h.1.1.0.params)

two_args : (args : List ℕ) → are_values (Pointer ∷ Pointer ∷ []) args ≡ true → args ≡ get_or args 0 0 ∷ get_or args 1 0 ∷ []
two_args [] h = absurd (true≢false (sym h))
two_args (a ∷ []) h = absurd (true≢false (sym (and_parts (is_value Pointer a) false h).1))
two_args (a ∷ (b ∷ [])) h = refl
two_args (a ∷ (b ∷ (c ∷ rest))) h = absurd (true≢false (sym (and_parts (is_value Pointer b) false (and_parts (is_value Pointer a) (is_value Pointer b && false) h).1).1))

pub spawn_takes : (l : Laid) → IsValid l.code → (f : ℕ) (args : List ℕ) → f ≡ spawn_number → AreArguments l f args → args ≡ get_or args 0 0 ∷ get_or args 1 0 ∷ []
spawn_takes l valid f args e h =
    let s = spawn_there l.code.builtins valid.builtins in
    two_args args (subst (λ ps. are_values ps args ≡ true) s.2 (subst (λ o. takes_values o args ≡ true) s.1 (subst (λ k. AreArguments l k args) e h)))

same_args : (f g : ℕ) (args bs : List ℕ) → (eqb g f && same_numbers bs args) ≡ true → (g ≡ f) × (bs ≡ args)
same_args f g args bs e = let q = and_parts (eqb g f) (same_numbers bs args) e in (eqb-true g f q.0, same_numbers_true bs args q.1)

module _ (w : World) (fit : IsFit w) (past : List Mark) (follows : Follows w past) (s : Picked w past) (func : ℕ) (args : List ℕ) (result : ℕ) where
  abbrev l : Laid
  l = w.laid

  -- what is known of the call
  pub record IsCalled : Type 0 where
    pub free : is_free w past s.thread args (builtin_of func) ≡ true
    pub values : AreArguments l func args
    pub starts : func ≡ spawn_number → given w past s.thread func args ≡ Says result []
    pub asked_or_body : (asked s.want ≡ Some (call_of func args)) ⊎ (builtin_of func ≡ None)

  known : AreThreads w past
  known = threads_known w fit.code past follows

  abbrev spawn_gives : ℕ
  spawn_gives = cond (leb 32 (started past)) minus_one (started past)

  given_spawn : (f : ℕ) (bs : List ℕ) → f ≡ spawn_number → given w past s.thread f bs ≡ Says spawn_gives []
  given_spawn f bs e = ap (given_by w past s.thread f bs) (ap builtin_of e)

  asks : (g : ℕ) (bs : List ℕ) → asked s.want ≡ Some (call_of g bs) → g ≡ func → bs ≡ args → AreArguments l g bs → (func ≡ spawn_number → result ≡ spawn_gives) → IsCalled
  asks g bs e eg eb values starts = record {
    free = sym (may_by w past s.thread (comes w past s.thread) (call_of func args) (ap next_asked s.comes_is ∙ (e ∙ (λ i. Some (call_of (eg i) (eb i))))))
        ∙ (sym (can_by w past s.thread (picked_started w fit.code past known s)) ∙ picked_can w past s);
    values = subst (λ k. AreArguments l k args) eg (subst (λ xs. AreArguments l g xs) eb values);
    starts = λ z. given_spawn func args z ∙ ap (λ k. Says k []) (sym (starts z));
    asked_or_body = inl (e ∙ (λ i. Some (call_of (eg i) (eb i))));
  }

  step_called : (want : Want) → s.want ≡ want → CarriesValues l want → (f : ℕ) (bs : List ℕ) (v : ℕ) (ins pieces : List Piece) (freed : List Range) → f ≡ func → bs ≡ args → v ≡ result →
      is_some (answer_to want (Step f bs v ins pieces freed)) ≡ true → IsStep w past s.thread (record { func = f; args = bs; result = v; ins = ins; pieces = pieces; freed = freed }) (builtin_of f) → IsCalled
  unfolding answer_to
  step_called (Steps i g cs) wi carries f bs v ins pieces freed ef eb ev e h =
      let same : (f ≡ g) × (bs ≡ cs) = same_args g f cs bs (some_if (eqb f g && same_numbers bs cs) _ e) in
      asks g cs (ap asked wi) (sym same.0 ∙ ef) (sym same.1 ∙ eb) carries starts
    where
      st : StepOf
      st = record { func = f; args = bs; result = v; ins = ins; pieces = pieces; freed = freed }

      starts : func ≡ spawn_number → result ≡ spawn_gives
      starts z =
          let here : GivesStep w past st (given w past s.thread f bs) = subst (IsStep w past s.thread st) (ap builtin_of (ef ∙ z)) h in
          let gives : GivesStep w past st (Says spawn_gives []) = subst (GivesStep w past st) (given_spawn f bs (ef ∙ z)) here in
          sym ev ∙ gives.result_is
  step_called Outside wi carries f bs v ins pieces freed ef eb ev e h = absurd (true≢false (sym e))
  step_called Turns wi carries f bs v ins pieces freed ef eb ev e h = absurd (true≢false (sym e))
  step_called (Loads o at n) wi carries f bs v ins pieces freed ef eb ev e h = absurd (true≢false (sym e))
  step_called (Stores o at bytes) wi carries f bs v ins pieces freed ef eb ev e h = absurd (true≢false (sym e))
  step_called (Enters i g cs bytes) wi carries f bs v ins pieces freed ef eb ev e h = absurd (true≢false (sym e))
  step_called (Leaves at n) wi carries f bs v ins pieces freed ef eb ev e h = absurd (true≢false (sym e))
  step_called (Allocs n) wi carries f bs v ins pieces freed ef eb ev e h = absurd (true≢false (sym e))
  step_called (Frees at) wi carries f bs v ins pieces freed ef eb ev e h = absurd (frees_not (not (eqb at 0)) e)
    where
      frees_not : (b : Bool) → is_some (answer_if (b && false) Stopped) ≡ true → ⊥
      frees_not true y = true≢false (sym y)
      frees_not false y = true≢false (sym y)
  step_called (Calls i g cs) wi carries f bs v ins pieces freed ef eb ev e h = absurd (true≢false (sym e))
  step_called (Below g cs) wi carries f bs v ins pieces freed ef eb ev e h = absurd (true≢false (sym e))
  step_called (Gives g cs) wi carries f bs v ins pieces freed ef eb ev e h = absurd (true≢false (sym e))
  step_called (Returns g cs u) wi carries f bs v ins pieces freed ef eb ev e h = absurd (true≢false (sym e))
  step_called (CallsBack g cs bytes) wi carries f bs v ins pieces freed ef eb ev e h = absurd (true≢false (sym e))
  step_called (UpReturns g u) wi carries f bs v ins pieces freed ef eb ev e h = absurd (true≢false (sym e))
  step_called (Fails kind) wi carries f bs v ins pieces freed ef eb ev e h = absurd (true≢false (sym e))

  abbrev func_in : Option Outcome → ℕ
  func_in None = func
  func_in (Some o) = o.func

  abbrev args_in : Option Outcome → List ℕ
  args_in None = args
  args_in (Some o) = o.args

  abbrev result_in : Option Outcome → ℕ
  result_in None = result
  result_in (Some o) = o.result

  ret_called : (want : Want) → s.want ≡ want → CarriesValues l want → (k : EventKind) → event_outcome s.thread k ≡ Some (outcome s.thread func args result) → is_some (event_answer want k) ≡ true → EventAgrees w past s.thread want k → IsCalled
  ret_called (Gives g cs) wi carries (Ret f bs v same outs commit) is e h =
      let both : (f ≡ g) × (bs ≡ cs) = same_args g f cs bs (some_if (eqb f g && same_numbers bs cs) _ e) in
      let ef : f ≡ func = ap func_in is in
      asks g cs (ap asked wi) (sym both.0 ∙ ef) (sym both.1 ∙ ap args_in is) carries
      (λ z.
      let brought : BringsGiven w past g cs v (outs ++ released commit) (Says spawn_gives []) = subst (BringsGiven w past g cs v (outs ++ released commit)) (given_spawn g cs (sym both.0 ∙ (ef ∙ z))) h in
      sym (ap result_in is) ∙ brought.0)
  ret_called (Returns g cs u) wi carries (Ret f bs v same outs commit) is e h =
      let q = and_parts (eqb f g) (same_numbers bs cs && eqb v u) (some_if (eqb f g && (same_numbers bs cs && eqb v u)) _ e) in
      let p = and_parts (same_numbers bs cs) (eqb v u) q.1 in
      let eg : g ≡ func = sym (eqb-true f g q.0) ∙ ap func_in is in
      let eb : cs ≡ args = sym (same_numbers_true bs cs p.0) ∙ ap args_in is in
      let body : has_entry (entry l g) ≡ true = (subst (IsOwn l s.side) wi (own_want w fit.code past known s)).1 in
      let none : builtin_of func ≡ None = ap builtin_of (sym eg) ∙ no_builtin l fit.code.valid g body in
      record {
        free = ap (is_free w past s.thread args) none;
        values = subst (λ k. AreArguments l k args) eg (subst (λ xs. AreArguments l g xs) eb carries.0);
        starts = λ z. absurd (some_none (sym (ap builtin_of z) ∙ none));
        asked_or_body = inr none;
      }
    where
      some_none : builtin_of spawn_number ≡ None → ⊥
      some_none z = absurd cc
  ret_called (Below g cs) wi carries (Ret f bs v same outs commit) is e h = absurd h
  ret_called want wi carries (Ret f bs v same outs commit) is e h = absurd (true≢false (sym e))
  ret_called want wi carries (Call f bs ins outs prepared) is e h = absurd cc
  ret_called want wi carries (Up f bs) is e h = absurd cc
  ret_called want wi carries (UpRet f v) is e h = absurd cc
  ret_called want wi carries (Alloc at size) is e h = absurd cc
  ret_called want wi carries (Free at size) is e h = absurd cc
  ret_called want wi carries (Stop fault) is e h = absurd cc

  pub called : (m : Mark) → IsMade w past s m → act_outcome s.thread m.act ≡ Some (outcome s.thread func args result) → IsCalled
  unfolding answer_to
  called m made is = by m.act is (answers_to s.side s.want m made.replies) made.agrees
    where
      by : (a : Act) → act_outcome s.thread a ≡ Some (outcome s.thread func args result) → is_some (answer_to s.want a) ≡ true → Agrees w past s.thread s.side s.want a → IsCalled
      by (Step f bs v ins pieces freed) z e g = step_called s.want refl (carried w fit.code past known s) f bs v ins pieces freed (ap func_in z) (ap args_in z) (ap result_in z) e g
      by (Made ev) z e g = ret_called s.want refl (carried w fit.code past known s) ev.kind z e g
      by Turn z e g = absurd cc
      by (Load p at bytes) z e g = absurd cc
      by (Store p at bytes) z e g = absurd cc
      by (Enter f bs at bytes) z e g = absurd cc
      by (Leave at size) z e g = absurd cc
      by (Fault k c ins outs at) z e g = absurd g

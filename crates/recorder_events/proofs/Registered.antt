-- A function that a Call registered may run above the cut: each Call tests those that it registers.
use Rattle.std.proofs.Common.{◌≡◌, ⊎_elim, ℕ, Bool, true, false, cond, ◌||◌, ◌&&◌, eqb, List, [], ◌∷◌, ◌++◌, map, refl, sym, ap, ◌∙◌, subst, eqb-true}
use Rattle.std.specs.Prelude.{is_some}
use Rattle.std.proofs.lemmas.Bool.{and_parts, or_cases, true≢false}
use Rattle.run_events.specs.declared.key.Class.TheVariants.{Callback, Async}
use Rattle.run_events.specs.declared.key.Key.{Key}
use Rattle.run_events.specs.declared.key.KeyMark.{KeyMark}
use Rattle.marks.specs.declared.side.Side.{Side}
use Rattle.marks.specs.declared.side.Side.TheVariants.{Replay}
use Rattle.marks.specs.declared.range.Range.{Range}
use Rattle.marks.specs.Ranges.{Piece, Prepared}
use Rattle.marks.specs.Marks.{EventKind, Call, Ret, Up, UpRet, Alloc, Free, Stop, Event, Act, Turn, Load, Store, Enter, Leave, Step, Fault, Made, Mark}
use Rattle.marks.specs.Wants.{Want, Outside, Turns, Loads, Stores, Enters, Leaves, Allocs, Frees, Calls, Below, Gives, Returns, CallsBack, UpReturns, Steps, Fails, Go, answer_to, event_answer, same_numbers}
use Rattle.marks.proofs.Touched.{or_true_left, or_true_right}
use Rattle.c_code.specs.MarkLists.{same_side}
use Rattle.c_code.specs.Typed.{AreArguments, CarriesValues}
use Rattle.logical_clock.specs.Events.{is_among}
use Rattle.replay_runs.specs.Runs.{OfKey, has, is_listed, keys_of, marks_of, new_events, same_key}
use Rattle.replay_runs.specs.Interface.{Interface}
use Rattle.replay_runs.specs.Keys.{key, key_before, keys_for, sorted_keys, with_key}
use Rattle.replay_runs.specs.Pool.{is_call, is_call_event, is_registered, registered_from}
use Rattle.replay_runs.specs.Rules.{AllMayRun, HasKeys}
use Rattle.replay_runs.specs.Checks.{Passes}
use Rattle.replay_runs.proofs.Keys.{same_key_true}
use Rattle.replay_runs.proofs.Passing.{say}
use Rattle.replay_runs.proofs.Replies.{same_numbers_true}
use Rattle.whole_runs.specs.World.{World, begin, interface, may_run}
use Rattle.whole_runs.specs.Sides.{seen}
use Rattle.whole_runs.specs.Tests.{tests}
use Rattle.whole_runs.specs.Steps.{IsMade, Picked}
use Rattle.whole_runs.specs.Ends.{Follows}
use Rattle.whole_runs.specs.Fits.{IsFit}
use Rattle.whole_runs_laws.proofs.Lasts.{answers_to, some_if}
use Rattle.whole_runs_laws.proofs.OneStep.{same_side_true}
use Rattle.whole_runs_seen.proofs.Entries.{IsOwn}
use Rattle.whole_runs_seen.proofs.Threads.{carried, own_want, threads_known}
use Rattle.recorder_events.proofs.CallKeys.{no_callback}

-- ---- keys of a list

among_marks : (qs : List KeyMark) (k : Key) → is_among (map (λ (q : KeyMark). q.key) qs) k ≡ is_listed qs k
among_marks [] k = refl
among_marks (q ∷ qs) k = ap (λ b. same_key q.key k || b) (among_marks qs k)

among_with : (j : Key) (js : List Key) (k : Key) → is_among (with_key j js) k ≡ true → is_among (j ∷ js) k ≡ true
among_with j [] k e = e
among_with j (h ∷ js) k e = go (same_key j h) (key_before j h) e (among_with j js k)
  where
    go : (b c : Bool) → is_among (cond b (h ∷ js) (cond c (j ∷ h ∷ js) (h ∷ with_key j js))) k ≡ true → (is_among (with_key j js) k ≡ true → is_among (j ∷ js) k ≡ true) → is_among (j ∷ h ∷ js) k ≡ true
    go true c z on = or_true_right (same_key j k) (is_among (h ∷ js) k) z
    go false true z on = z
    go false false z on = ⊎_elim
        (λ y. or_true_right (same_key j k) (is_among (h ∷ js) k) (or_true_left (same_key h k) (is_among js k) y))
        (λ y. ⊎_elim
        (λ x. or_true_left (same_key j k) (is_among (h ∷ js) k) x)
        (λ x. or_true_right (same_key j k) (is_among (h ∷ js) k) (or_true_right (same_key h k) (is_among js k) x))
        (or_cases (same_key j k) (is_among js k) (on y)))
        (or_cases (same_key h k) (is_among (with_key j js) k) z)

among_sorted : (ks : List Key) (k : Key) → is_among (sorted_keys ks) k ≡ true → is_among ks k ≡ true
among_sorted [] k e = e
among_sorted (j ∷ ks) k e = ⊎_elim
    (λ z. or_true_left (same_key j k) (is_among ks k) z)
    (λ z. or_true_right (same_key j k) (is_among ks k) (among_sorted ks k z))
    (or_cases (same_key j k) (is_among (sorted_keys ks) k) (among_with j (sorted_keys ks) k e))

among_rest : (xs ys : List Key) (k : Key) → is_among xs k ≡ false → is_among (xs ++ ys) k ≡ true → is_among ys k ≡ true
among_rest [] ys k none e = e
among_rest (x ∷ xs) ys k none e = go (same_key x k) none e (among_rest xs ys k)
  where
    go : (b : Bool) → (b || is_among xs k) ≡ false → (b || is_among (xs ++ ys) k) ≡ true → (is_among xs k ≡ false → is_among (xs ++ ys) k ≡ true → is_among ys k ≡ true) → is_among ys k ≡ true
    go true n z on = absurd (true≢false n)
    go false n z on = on n z

module _ (i : Interface) (f : ℕ) where
  no_region : (ps : List Prepared) → is_among (map (λ (p : Prepared). key Async p.key) ps) (key Callback f) ≡ true → ⊥
  no_region [] e = true≢false (sym e)
  no_region (p ∷ ps) e = no_region ps e

  same_func : (g : ℕ) → key Callback g ≡ key Callback f → g ≡ f
  same_func g e = ap (λ (k : Key). k.value) e

  -- what is registered, and nothing else, has a key of a call back
  of_registered : (fs : List ℕ) (ps : List Prepared) → AllMayRun i fs → is_among (map (key Callback) fs ++ map (λ (p : Prepared). key Async p.key) ps) (key Callback f) ≡ true → i.may_run Replay f ≡ true
  of_registered [] ps may e = absurd (no_region ps e)
  of_registered (g ∷ fs) ps may e = ⊎_elim
      (λ z. subst (λ n. i.may_run Replay n ≡ true) (same_func g (same_key_true (key Callback g) (key Callback f) z)) may.0)
      (λ z. of_registered fs ps may.1 z)
      (or_cases (same_key (key Callback g) (key Callback f)) (is_among (map (key Callback) fs ++ map (λ (p : Prepared). key Async p.key) ps) (key Callback f)) e)

-- ---- a Call

module _ (w : World) (fit : IsFit w) (past : List Mark) (follows : Follows w past) (s : Picked w past) (m : Mark) (made : IsMade w past s m) (above : m.side ≡ Replay) where
  -- a Call is made where it is wanted, and tests what it registers
  module _ (g : ℕ) (args : List ℕ) (ins : List Piece) (outs : List Range) (ps : List Prepared) where
    abbrev Known : ℕ → List ℕ → Type 0
    Known n xs = AreArguments w.laid n xs × AllMayRun (interface w) ((interface w).registers n xs)

    wanted : (side : Side) (want : Want) → IsOwn w.laid side want → CarriesValues w.laid want → is_some (event_answer want (Call g args ins outs ps)) ≡ true → Passes (tests w past s.thread side want) → Known g args
    wanted side (Calls i h bs) own carries e passes =
        let parts = and_parts (eqb g h) (same_numbers args bs) (some_if (eqb g h && same_numbers args bs) Go e) in
        let func : h ≡ g = sym (eqb-true g h parts.0) in
        let same : bs ≡ args = sym (same_numbers_true args bs parts.1) in
        let at_call = ((say (begin w) (seen past) s.thread (interface w)).calls i h bs).0 (subst (λ d. Passes (tests w past s.thread d (Calls i h bs))) own passes) in
        subst (λ n. Known n args) func (subst (Known h) same (carries, at_call.modes.1))
    wanted side Outside own carries e passes = absurd (true≢false (sym e))
    wanted side Turns own carries e passes = absurd (true≢false (sym e))
    wanted side (Loads o at n) own carries e passes = absurd (true≢false (sym e))
    wanted side (Stores o at bytes) own carries e passes = absurd (true≢false (sym e))
    wanted side (Enters i h bs bytes) own carries e passes = absurd (true≢false (sym e))
    wanted side (Leaves at n) own carries e passes = absurd (true≢false (sym e))
    wanted side (Allocs n) own carries e passes = absurd (true≢false (sym e))
    wanted side (Frees at) own carries e passes = absurd (true≢false (sym e))
    wanted side (Below h bs) own carries e passes = absurd (true≢false (sym e))
    wanted side (Gives h bs) own carries e passes = absurd (true≢false (sym e))
    wanted side (Returns h bs v) own carries e passes = absurd (true≢false (sym e))
    wanted side (CallsBack h bs bytes) own carries e passes = absurd (true≢false (sym e))
    wanted side (UpReturns h v) own carries e passes = absurd (true≢false (sym e))
    wanted side (Steps i h bs) own carries e passes = absurd (true≢false (sym e))
    wanted side (Fails kind) own carries e passes = absurd (true≢false (sym e))

  module _ (f : ℕ) where
    abbrev May : Type 0
    May = may_run w.laid.placed Replay f ≡ true

    -- so each key of a call back that it has is of a function that may run above the cut
    of_call : (e : Event) (g : ℕ) (args : List ℕ) (ins : List Piece) (outs : List Range) (ps : List Prepared) → e.kind ≡ Call g args ins outs ps → is_some (event_answer s.want e.kind) ≡ true
        → map (λ (q : KeyMark). q.key) e.keys ≡ sorted_keys (keys_for (interface w) m.thread (marks_of (begin w) m.thread (seen past)) e.kind) → is_listed e.keys (key Callback f) ≡ true → May
    of_call e g args ins outs ps kind answers keys listed =
        let code = fit.code in
        let known = threads_known w code past follows in
        let z = wanted g args ins outs ps s.side s.want (own_want w code past known s) (carried w code past known s) (subst (λ k. is_some (event_answer s.want k) ≡ true) kind answers) made.passes in
        let at_call = (interface w).keys_at_call g args in
        let later = map (key Callback) ((interface w).registers g args) ++ map (λ (p : Prepared). key Async p.key) ps in
        let are : map (λ (q : KeyMark). q.key) e.keys ≡ sorted_keys (at_call ++ later) = keys ∙ ap (λ k. sorted_keys (keys_for (interface w) m.thread (marks_of (begin w) m.thread (seen past)) k)) kind in
        let all = among_sorted (at_call ++ later) (key Callback f) (ap (λ ks. is_among ks (key Callback f)) (sym are) ∙ (among_marks e.keys (key Callback f) ∙ listed)) in
        of_registered (interface w) f ((interface w).registers g args) ps z.1 (among_rest at_call later (key Callback f) (no_callback w fit g args f z.0) all)

    of_event : (e : Event) (kind : EventKind) → e.kind ≡ kind → is_call_event kind ≡ true → is_some (event_answer s.want e.kind) ≡ true
        → map (λ (q : KeyMark). q.key) e.keys ≡ sorted_keys (keys_for (interface w) m.thread (marks_of (begin w) m.thread (seen past)) e.kind) → is_listed e.keys (key Callback f) ≡ true → May
    of_event e (Call g args ins outs ps) is call answers keys listed = of_call e g args ins outs ps is answers keys listed
    of_event e (Ret g args v same outs commit) is call answers keys listed = absurd (true≢false (sym call))
    of_event e (Up g args) is call answers keys listed = absurd (true≢false (sym call))
    of_event e (UpRet g v) is call answers keys listed = absurd (true≢false (sym call))
    of_event e (Alloc at size) is call answers keys listed = absurd (true≢false (sym call))
    of_event e (Free at size) is call answers keys listed = absurd (true≢false (sym call))
    of_event e (Stop fault) is call answers keys listed = absurd (true≢false (sym call))

    of_act : (a : Act) → is_call a ≡ true → is_some (answer_to s.want a) ≡ true → HasKeys (interface w) m.thread (marks_of (begin w) m.thread (seen past)) a → is_listed (keys_of a) (key Callback f) ≡ true → May
    unfolding answer_to
    of_act (Made e) call answers keys listed = of_event e e.kind refl call answers keys listed
    of_act Turn call answers keys listed = absurd (true≢false (sym call))
    of_act (Load o at bytes) call answers keys listed = absurd (true≢false (sym call))
    of_act (Store o at bytes) call answers keys listed = absurd (true≢false (sym call))
    of_act (Enter g args at bytes) call answers keys listed = absurd (true≢false (sym call))
    of_act (Leave at size) call answers keys listed = absurd (true≢false (sym call))
    of_act (Step g args v is pieces freed) call answers keys listed = absurd (true≢false (sym call))
    of_act (Fault k c is os at) call answers keys listed = absurd (true≢false (sym call))

    pub registers_those_that_may : is_call m.act ≡ true → has m (OfKey (key Callback f)) ≡ true → May
    registers_those_that_may call listed = of_act m.act call (answers_to s.side s.want m made.replies) (made.mark.above above).own.0 listed

-- ---- a run

one_more : (w : World) (fit : IsFit w) (past : List Mark) (m : Mark) → Follows w (m ∷ past) → (f : ℕ) → (is_registered (begin w) f (seen past) ≡ true → may_run w.laid.placed Replay f ≡ true)
    → is_registered (begin w) f (seen (m ∷ past)) ≡ true → may_run w.laid.placed Replay f ≡ true
one_more w fit past m follows f before = by (same_side m.side Replay) refl
  where
    here : m.side ≡ Replay → (b : Bool) → has m (OfKey (key Callback f)) ≡ b
        → registered_from false (cond b (m ∷ new_events (OfKey (key Callback f)) (seen past)) (new_events (OfKey (key Callback f)) (seen past))) ≡ true → may_run w.laid.placed Replay f ≡ true
    here above true listed e = ⊎_elim (λ z. registers_those_that_may w fit past follows.1 follows.0.step m follows.0.made above f z listed) before
        (or_cases (is_call m.act) (registered_from false (new_events (OfKey (key Callback f)) (seen past))) e)
    here above false listed e = before e

    by : (b : Bool) → same_side m.side Replay ≡ b → is_registered (begin w) f (cond b (m ∷ seen past) (seen past)) ≡ true → may_run w.laid.placed Replay f ≡ true
    by true z e = here (same_side_true m.side Replay z) (has m (OfKey (key Callback f))) refl e
    by false z e = before e

pub registered_may_run : (w : World) → IsFit w → (past : List Mark) → Follows w past → (f : ℕ) → is_registered (begin w) f (seen past) ≡ true → may_run w.laid.placed Replay f ≡ true
registered_may_run w fit [] follows f e = absurd (true≢false (sym e))
registered_may_run w fit (m ∷ past) follows f e = one_more w fit past m follows f (registered_may_run w fit past follows.1 f) e

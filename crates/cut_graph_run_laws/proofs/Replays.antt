-- In replay runs pointers keep to the modes, by the rules of runs.
use Rattle.std.proofs.Common.{◌≡◌, ℕ, Bool, true, false, ◌&&◌, ◌||◌, cond, eqb, eqb-true, List, [], ◌∷◌, ◌++◌, Option, Some, None, is_some, ◌⊎◌, inl, inr, refl, sym, ap, ◌∙◌, subst}
use Rattle.std.specs.Prelude.{reverse}
use Rattle.std.proofs.lemmas.List.{reverse-append, reverse-reverse}
use Rattle.std.proofs.lemmas.Option.{same_Some}
use Rattle.marks.specs.declared.side.Side.{Side}
use Rattle.marks.specs.declared.side.Side.TheVariants.{Replay, System}
use Rattle.marks.specs.declared.fault.FaultKind.{FaultKind}
use Rattle.marks.specs.Bytes.{Byte}
use Rattle.marks.specs.Marks.{EventKind, Call, Ret, Up, UpRet, Alloc, Free, Stop, Act, Turn, Load, Store, Enter, Leave, Step, Fault, Made, Mark}
use Rattle.marks.specs.Opens.{is_stop, is_stop_event}
use Rattle.marks.specs.Wants.{Want, Outside, Turns, Loads, Stores, Enters, Leaves, Allocs, Frees, Calls, Below, Gives, Returns, CallsBack, UpReturns, Steps, Fails, Answer, Go, Value, Frame, CalledBack, Stopped, answer_to, event_answer, same_numbers}
use Rattle.c_code.specs.Machine.{Laid}
use Rattle.c_code.specs.MarkLists.{reply, want_above}
use Rattle.c_code.proofs.Sides.{answered, replied}
use Rattle.replay_runs.specs.Interface.{Interface, Program}
use Rattle.replay_runs.specs.Laws.{fresh}
use Rattle.replay_runs.specs.Rules.{Carries, EventCarries, KeepsModes, OwnRules, is_reply, replay_rules}
use Rattle.replay_runs.specs.Runs.{Run, Start, marks_of}
use Rattle.cut_graph_reached.specs.Reached.{Reach, by_pointer, called, called_back, entered, reached}
use Rattle.cut_graph_reached.specs.Answers.{IsAnswered, ModesKept}
use Rattle.cut_graph_run_laws.specs.Code.{wanting}
use Rattle.cut_graph_run_laws.specs.Replays.{program_of}
use Rattle.cut_graph_run_laws.proofs.Above.{AtLast, last_or_before, no_place}

-- ---- a Stop answers no call

stop_is : (want : Want) → ((fault : Option FaultKind) → event_answer want (Stop fault) ≡ None) → (k : EventKind) (x : Answer) → event_answer want k ≡ Some x → is_stop_event k ≡ false
stop_is want n (Stop fault) x h = let no : None ≡ Some x = sym (n fault) ∙ h in absurd cc
stop_is want n (Call g bs ins outs prepared) x h = refl
stop_is want n (Ret g bs v same outs commit) x h = refl
stop_is want n (Up g bs) x h = refl
stop_is want n (UpRet g v) x h = refl
stop_is want n (Alloc at size) x h = refl
stop_is want n (Free at size) x h = refl

no_stop : (want : Want) → ((fault : Option FaultKind) → event_answer want (Stop fault) ≡ None) → (a : Act) (x : Answer) → answer_to want a ≡ Some x → is_stop a ≡ false
unfolding answer_to
no_stop want n (Made e) x h = stop_is want n e.kind x h
no_stop want n Turn x h = refl
no_stop want n (Load o at bytes) x h = refl
no_stop want n (Store o at bytes) x h = refl
no_stop want n (Enter g bs at b) x h = refl
no_stop want n (Leave at size) x h = refl
no_stop want n (Step g bs v ins pieces freed) x h = refl
no_stop want n (Fault kind crosses ins outs access) x h = refl

-- an indirect call below the cut isn't wanted above it
never_wanted : (b : Bool) (x : Bool) → cond b false ((false || false) && x) ≡ true → ⊥
never_wanted true x e = cc
never_wanted false x e = cc

module _ (i : Interface) where
  abbrev may : Side → ℕ → Type 0
  may side f = i.may_run side f ≡ true

  abbrev Runs : Reach → Type 0
  Runs r = may r.side r.func

  runs_there : (q r : Reach) → Some q ≡ Some r → Runs q → Runs r
  runs_there q r e h = subst Runs (same_Some q r e) h

  by_frame : (f : ℕ) (x : Answer) (r : Reach) → entered Replay f x ≡ Some r → may Replay f → Runs r
  by_frame f (Frame at) r e h = runs_there (record { side = Replay; func = f }) r e h
  by_frame f Go r e h = absurd cc
  by_frame f (Value v) r e h = absurd cc
  by_frame f (CalledBack g args) r e h = absurd cc
  by_frame f Stopped r e h = absurd cc

  by_call : (f : ℕ) (x : Answer) (r : Reach) → called f x ≡ Some r → may System f → Runs r
  by_call f Go r e h = runs_there (record { side = System; func = f }) r e h
  by_call f (Frame at) r e h = absurd cc
  by_call f (Value v) r e h = absurd cc
  by_call f (CalledBack g args) r e h = absurd cc
  by_call f Stopped r e h = absurd cc

  module _ (s : Start) (t : ℕ) (older : List Mark) where
    -- an Up is of a function that may run above the cut
    by_up : (g : ℕ) (bs : List ℕ) (x : Answer) (r : Reach) → EventCarries i s t older (Up g bs) → Some (CalledBack g bs) ≡ Some x → called_back x ≡ Some r → Runs r
    by_up g bs x r carries h e =
        let same : CalledBack g bs ≡ x = same_Some (CalledBack g bs) x h in
        runs_there (record { side = Replay; func = g }) r (ap called_back same ∙ e) carries.0

    outside_kind : (k : EventKind) (x : Answer) (r : Reach) → EventCarries i s t older k → event_answer Outside k ≡ Some x → called_back x ≡ Some r → Runs r
    outside_kind (Up g bs) x r carries h e = by_up g bs x r carries h e
    outside_kind (Call g bs ins outs prepared) x r carries h e = absurd cc
    outside_kind (Ret g bs v same outs commit) x r carries h e = absurd cc
    outside_kind (UpRet g v) x r carries h e = absurd cc
    outside_kind (Alloc at size) x r carries h e = absurd cc
    outside_kind (Free at size) x r carries h e = absurd cc
    outside_kind (Stop fault) x r carries h e = absurd cc

    below_kind : (f : ℕ) (args : List ℕ) (k : EventKind) (x : Answer) (r : Reach) → EventCarries i s t older k → event_answer (Below f args) k ≡ Some x → called_back x ≡ Some r → Runs r
    below_kind f args (Up g bs) x r carries h e = by_up g bs x r carries h e
    below_kind f args (Ret g bs v same outs commit) x r carries h e =
        let value : Value v ≡ x = (answered (eqb g f && same_numbers bs args) (Value v) x h).1 in
        let no : None ≡ Some r = ap called_back value ∙ e in
        absurd cc
    below_kind f args (Call g bs ins outs prepared) x r carries h e = absurd cc
    below_kind f args (UpRet g v) x r carries h e = absurd cc
    below_kind f args (Alloc at size) x r carries h e = absurd cc
    below_kind f args (Free at size) x r carries h e = absurd cc
    below_kind f args (Stop fault) x r carries h e = absurd cc

    outside_act : (a : Act) (x : Answer) (r : Reach) → Carries i s t older Outside a → answer_to Outside a ≡ Some x → called_back x ≡ Some r → Runs r
    unfolding answer_to
    outside_act (Made e) x r carries h reaches = outside_kind e.kind x r carries h reaches
    outside_act Turn x r carries h reaches = absurd cc
    outside_act (Load o at bytes) x r carries h reaches = absurd cc
    outside_act (Store o at bytes) x r carries h reaches = absurd cc
    outside_act (Enter g bs at b) x r carries h reaches = absurd cc
    outside_act (Leave at size) x r carries h reaches = absurd cc
    outside_act (Step g bs v ins pieces freed) x r carries h reaches = absurd cc
    outside_act (Fault kind crosses ins outs access) x r carries h reaches = absurd cc

    below_act : (f : ℕ) (args : List ℕ) (a : Act) (x : Answer) (r : Reach) → Carries i s t older (Below f args) a → answer_to (Below f args) a ≡ Some x → called_back x ≡ Some r → Runs r
    unfolding answer_to
    below_act f args (Made e) x r carries h reaches = below_kind f args e.kind x r carries h reaches
    below_act f args Turn x r carries h reaches = absurd cc
    below_act f args (Load o at bytes) x r carries h reaches = absurd cc
    below_act f args (Store o at bytes) x r carries h reaches = absurd cc
    below_act f args (Enter g bs at b) x r carries h reaches = absurd cc
    below_act f args (Leave at size) x r carries h reaches = absurd cc
    below_act f args (Step g bs v ins pieces freed) x r carries h reaches = absurd cc
    below_act f args (Fault kind crosses ins outs access) x r carries h reaches = absurd cc

    -- what a pointer chooses may run, by the rules of the mark
    rule : (want : Want) (a : Act) (x : Answer) (r : Reach) → is_reply want a ≡ true → (is_stop a ≡ false → KeepsModes i want) → Carries i s t older want a → answer_to want a ≡ Some x → by_pointer want ≡ true → reached Replay want x ≡ Some r → Runs r
    rule (Enters j f args bytes) a x r replies modes carries h pointer e = by_frame f x r e (modes (no_stop (Enters j f args bytes) (λ fault. refl) a x h) pointer)
    rule (Calls j f args) a x r replies modes carries h pointer e = by_call f x r e ((modes (no_stop (Calls j f args) (λ fault. refl) a x h)).0 pointer)
    rule (Steps j f args) a x r replies modes carries h pointer e = absurd (modes (no_stop (Steps j f args) (λ fault. refl) a x h))
    rule Outside a x r replies modes carries h pointer e = outside_act a x r carries h e
    rule (Below f args) a x r replies modes carries h pointer e = below_act f args a x r carries h e
    rule (CallsBack f args bytes) a x r replies modes carries h pointer e = absurd (never_wanted (is_stop a) (is_some (answer_to (CallsBack f args bytes) a)) replies)
    rule Turns a x r replies modes carries h pointer e = absurd cc
    rule (Loads o at n) a x r replies modes carries h pointer e = absurd cc
    rule (Stores o at bytes) a x r replies modes carries h pointer e = absurd cc
    rule (Leaves at n) a x r replies modes carries h pointer e = absurd cc
    rule (Allocs n) a x r replies modes carries h pointer e = absurd cc
    rule (Frees at) a x r replies modes carries h pointer e = absurd cc
    rule (Gives f args) a x r replies modes carries h pointer e = absurd cc
    rule (Returns f args v) a x r replies modes carries h pointer e = absurd cc
    rule (UpReturns f v) a x r replies modes carries h pointer e = absurd cc
    rule (Fails kind) a x r replies modes carries h pointer e = absurd cc

  module _ (l : Laid) (memory : ℕ → Byte) where
    abbrev begin : Start
    begin = fresh memory

    abbrev P : Program
    P = program_of i l

    -- each mark of a thread keeps the rules over those before it
    abbrev OwnAlong : List Mark → Type 0
    OwnAlong [] = Unit {0}
    OwnAlong (m ∷ older) = OwnRules P begin older m × OwnAlong older

    with_mark : (t : ℕ) (past : List Mark) (m : Mark) → OwnRules P begin (marks_of begin m.thread past) m → OwnAlong (marks_of begin t past) → (b : Bool) → (eqb m.thread t) ≡ b → OwnAlong (cond b (m ∷ marks_of begin t past) (marks_of begin t past))
    with_mark t past m own rest true e = (subst (λ (u : ℕ). OwnRules P begin (marks_of begin u past) m) (eqb-true m.thread t e) own, rest)
    with_mark t past m own rest false e = rest

    own_along : (t : ℕ) (run : List Mark) → Run (replay_rules P begin) begin run → OwnAlong (marks_of begin t run)
    own_along t [] h = tt
    own_along t (m ∷ past) h = with_mark t past m h.0.own (own_along t past h.1) (eqb m.thread t) refl

    at_last : (m : Mark) (older : List Mark) → OwnRules P begin older m → (side : Side) (want : Want) (x : Answer) (r : Reach) → side ≡ Replay → want_above l older ≡ want → reply side want m ≡ Some x → by_pointer want ≡ true → reached side want x ≡ Some r → Runs r
    at_last m older own side want x r es e h pointer reaches =
        rule begin m.thread older want m.act x r (ap (λ (w : Want). is_reply w m.act) (sym e) ∙ own.replies)
        (λ n. subst (KeepsModes i) e (own.modes n)) (subst (λ (w : Want). Carries i begin m.thread older w m.act) e own.carries) (replied side want m x h).1 pointer
        (ap (λ (z : Side). reached z want x) (sym es) ∙ reaches)

    one_more : (m : Mark) (older : List Mark) → OwnRules P begin older m → ModesKept may (wanting l) (reverse older) → ModesKept may (wanting l) (reverse older ++ (m ∷ []))
    one_more m older own before r k = let i = k.reaches in by (last_or_before (wanting l) (reverse older) m i.side i.want i.answer i.answered)
      where
        by : IsAnswered (wanting l) (reverse older) k.reaches.side k.reaches.want k.reaches.answer ⊎ AtLast (wanting l) (reverse older) m k.reaches.side k.reaches.want k.reaches.answer → Runs r
        by (inl a) = before r (record { reaches = record { side = k.reaches.side; want = k.reaches.want; answer = k.reaches.answer; answered = a; reaches = k.reaches.reaches }; pointer = k.pointer })
        by (inr z) =
            let w = z.wanted in
            let side : Replay ≡ k.reaches.side = cc in
            let want : want_above l (reverse (reverse older)) ≡ k.reaches.want = cc in
            at_last m older own k.reaches.side k.reaches.want k.reaches.answer r (sym side) (ap (λ (xs : List Mark). want_above l xs) (sym (reverse-reverse older)) ∙ want) z.answers k.pointer k.reaches.reaches

    kept_along : (mine : List Mark) → OwnAlong mine → ModesKept may (wanting l) (reverse mine)
    kept_along [] h = λ r k. let a = k.reaches.answered in absurd (no_place a.before a.after a.mark a.there)
    kept_along (m ∷ older) h = subst (ModesKept may (wanting l)) (sym (reverse-append (m ∷ []) older)) (one_more m older h.0 (kept_along older h.1))

    pub run_kept : (run : List Mark) → Run (replay_rules P begin) begin run → (t : ℕ) → ModesKept may (wanting l) (reverse (marks_of begin t run))
    run_kept run h t = kept_along (marks_of begin t run) (own_along t run h)

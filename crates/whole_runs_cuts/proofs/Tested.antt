-- What a step reaches through a pointer, or from below the cut, was tested before: it may run there.
use Rattle.std.proofs.Common.{◌≡◌, ℕ, Bool, true, false, ◌&&◌, eqb, List, [], ◌∷◌, length, Some, None, refl, sym, ap, ◌∙◌, subst, eqb-true}
use Rattle.std.proofs.lemmas.Bool.{and_parts}
use Rattle.std.proofs.lemmas.Option.{same_Some}
use Rattle.marks.specs.declared.side.Side.{Side}
use Rattle.marks.specs.declared.side.Side.TheVariants.{Replay, System}
use Rattle.marks.specs.declared.fault.FaultKind.TheVariants.{StackFull}
use Rattle.marks.specs.Places.{function_address}
use Rattle.marks.specs.Marks.{Nowhere, EventKind, Call, Ret, Up, UpRet, Alloc, Free, Stop, Act, Turn, Load, Store, Enter, Leave, Step, Fault, Made, Mark, side_of}
use Rattle.marks.specs.Wants.{Want, Outside, Turns, Loads, Stores, Enters, Leaves, Allocs, Frees, Calls, Below, Gives, Returns, CallsBack, UpReturns, Steps, Fails, Answer, Go, Value, Frame, CalledBack, Stopped, answer_to, event_answer, is_fault_of, same_numbers, stopped_if}
use Rattle.c_code.specs.MarkLists.{Next, Quiet, Wants, Ends, No, reply}
use Rattle.c_code.proofs.Sides.{answered, replied}
use Rattle.replay_runs.specs.Checks.{Checks, Passes, indirect_check, mode_checks}
use Rattle.replay_runs.specs.Rules.{Carries, EventCarries}
use Rattle.replay_runs.specs.Runs.{marks_of}
use Rattle.cut_graph_reached.specs.Reached.{Reach, by_pointer, called, called_below, entered, reached, stepped}
use Rattle.whole_runs.specs.World.{World, begin, interface, may_run}
use Rattle.whole_runs.specs.Sides.{seen}
use Rattle.whole_runs.specs.Fits.{IsFitCode}
use Rattle.whole_runs.specs.Tests.{back_checks, is_back, full_check, tests}
use Rattle.whole_runs.specs.Threads.{comes}
use Rattle.whole_runs.specs.Steps.{Agrees, IsMade, Picked}
use Rattle.whole_runs_seen.proofs.Entries.{IsOwn}
use Rattle.whole_runs_seen.proofs.Threads.{AreThreads, own_want}

-- what the mark reaches through a pointer, where this is next, may run
abbrev pub KeptAt : (may : Side → ℕ → Type 0) → Next → Mark → Type 0
KeptAt may (Wants side want to) m = (x : Answer) (r : Reach) → reply side want m ≡ Some x → by_pointer want ≡ true → reached side want x ≡ Some r → may r.side r.func
KeptAt may (Quiet d) m = Unit {0}
KeptAt may (Ends v) m = Unit {0}
KeptAt may No m = Unit {0}

not_false : (b : Bool) → (b ≡ false → ⊥) → b ≡ true
not_false true h = refl
not_false false h = absurd (h refl)

module _ (w : World) where
  abbrev may : Side → ℕ → Type 0
  may side f = may_run w.laid.placed side f ≡ true

  abbrev Runs : Reach → Type 0
  Runs r = may r.side r.func

  runs_there : (q r : Reach) → Some q ≡ Some r → Runs q → Runs r
  runs_there q r e h = subst Runs (same_Some q r e) h

  -- ---- what is tested

  by_mode : (side : Side) (f : ℕ) (cs : Checks) → Passes (mode_checks (interface w) side (f ∷ []) cs) → may side f
  by_mode side f cs p = not_false (may_run w.laid.placed side f) (λ e. p.0 (function_address f) (refl, e))

  by_test : (indirect : Bool) (side : Side) (f : ℕ) (cs : Checks) → Passes (indirect_check (interface w) indirect side f cs) → indirect ≡ true → may side f
  by_test true side f cs p e = by_mode side f cs p
  by_test false side f cs p e = absurd cc

  -- ---- what is reached

  by_frame : (side : Side) (f : ℕ) (x : Answer) (r : Reach) → entered side f x ≡ Some r → may side f → Runs r
  by_frame side f (Frame at) r e h = runs_there (record { side = side; func = f }) r e h
  by_frame side f Go r e h = absurd cc
  by_frame side f (Value v) r e h = absurd cc
  by_frame side f (CalledBack g args) r e h = absurd cc
  by_frame side f Stopped r e h = absurd cc

  by_call : (f : ℕ) (x : Answer) (r : Reach) → called f x ≡ Some r → may System f → Runs r
  by_call f Go r e h = runs_there (record { side = System; func = f }) r e h
  by_call f (Value v) r e h = absurd cc
  by_call f (Frame at) r e h = absurd cc
  by_call f (CalledBack g args) r e h = absurd cc
  by_call f Stopped r e h = absurd cc

  by_value : (side : Side) (f : ℕ) (x : Answer) (r : Reach) → stepped side f x ≡ Some r → may side f → Runs r
  by_value side f (Value v) r e h = runs_there (record { side = side; func = f }) r e h
  by_value side f Go r e h = absurd cc
  by_value side f (Frame at) r e h = absurd cc
  by_value side f (CalledBack g args) r e h = absurd cc
  by_value side f Stopped r e h = absurd cc

  module _ (past : List Mark) (t : ℕ) (mine : List Mark) where
    -- ---- an indirect call below the cut: an Up is of a function that may run above it, and a frame of one that may run below

    back_event : (f : ℕ) (args bytes : List ℕ) (k : EventKind) (x : Answer) (r : Reach) → EventCarries (interface w) (begin w) t mine k → event_answer (CallsBack f args bytes) k ≡ Some x → called_below f x ≡ Some r → Runs r
    back_event f args bytes (Up g bs) x r carries h e =
        let a = answered (eqb g f && same_numbers bs args) (CalledBack f args) x h in
        let func : g ≡ f = eqb-true g f (and_parts (eqb g f) (same_numbers bs args) a.0).0 in
        runs_there (record { side = Replay; func = f }) r (ap (called_below f) a.1 ∙ e) (subst (may Replay) func carries.0)
    back_event f args bytes (Call g bs ins outs prepared) x r carries h e = absurd cc
    back_event f args bytes (Ret g bs v same outs commit) x r carries h e = absurd cc
    back_event f args bytes (UpRet g v) x r carries h e = absurd cc
    back_event f args bytes (Alloc at size) x r carries h e = absurd cc
    back_event f args bytes (Free at size) x r carries h e = absurd cc
    back_event f args bytes (Stop fault) x r carries h e = absurd cc

    back_frame : (f : ℕ) (bytes : List ℕ) (back : Bool) → back ≡ false → Passes (back_checks w past t f bytes back) → may System f
    back_frame f bytes true e p = absurd cc
    back_frame f bytes false e p = by_mode System f (full_check w past t (length bytes)) p

    back_stopped : (f : ℕ) (a : Act) (x : Answer) (r : Reach) → stopped_if (is_fault_of StackFull Nowhere a) ≡ Some x → called_below f x ≡ Some r → ⊥
    back_stopped f a x r h e =
        let no : None ≡ Some r = ap (called_below f) (answered (is_fault_of StackFull Nowhere a) Stopped x h).1 ∙ e in
        cc

    back : (f : ℕ) (args bytes : List ℕ) (a : Act) (x : Answer) (r : Reach) → Passes (back_checks w past t f bytes (is_back w past f)) → Agrees w past t System (CallsBack f args bytes) a →
        (side_of System a ≡ Replay → Carries (interface w) (begin w) t mine (CallsBack f args bytes) a) → answer_to (CallsBack f args bytes) a ≡ Some x → called_below f x ≡ Some r → Runs r
    unfolding answer_to
    back f args bytes (Made ev) x r p agrees carries h e = back_event f args bytes ev.kind x r (carries refl) h e
    back f args bytes (Enter g bs at b) x r p agrees carries h e =
        let frame : Frame at ≡ x = (answered (eqb g f && (same_numbers bs args && same_numbers b bytes)) (Frame at) x h).1 in
        runs_there (record { side = System; func = f }) r (ap (called_below f) frame ∙ e) (back_frame f bytes (is_back w past f) agrees.0 p)
    back f args bytes Turn x r p agrees carries h e = absurd (back_stopped f Turn x r h e)
    back f args bytes (Load o at bs) x r p agrees carries h e = absurd (back_stopped f (Load o at bs) x r h e)
    back f args bytes (Store o at bs) x r p agrees carries h e = absurd (back_stopped f (Store o at bs) x r h e)
    back f args bytes (Leave at size) x r p agrees carries h e = absurd (back_stopped f (Leave at size) x r h e)
    back f args bytes (Step g bs v ins pieces freed) x r p agrees carries h e = absurd (back_stopped f (Step g bs v ins pieces freed) x r h e)
    back f args bytes (Fault kind crosses ins outs access) x r p agrees carries h e = absurd agrees

    -- ---- all that a pointer chooses

    rule : (side : Side) (want : Want) (a : Act) (x : Answer) (r : Reach) → IsOwn w.laid side want → Passes (tests w past t side want) → Agrees w past t side want a →
        (side_of side a ≡ Replay → Carries (interface w) (begin w) t mine want a) → answer_to want a ≡ Some x → by_pointer want ≡ true → reached side want x ≡ Some r → Runs r
    rule Replay (Enters i f args bytes) a x r own p agrees carries h pointer e = by_frame Replay f x r e (by_test i Replay f _ p pointer)
    rule System (Enters i f args bytes) a x r own p agrees carries h pointer e = by_frame System f x r e (by_test i System f _ p pointer)
    rule Replay (Calls i f args) a x r own p agrees carries h pointer e = by_call f x r e (by_test i System f _ p pointer)
    rule System (Calls i f args) a x r own p agrees carries h pointer e = absurd cc
    rule Replay (Steps i f args) a x r own p agrees carries h pointer e = absurd (p.0 (function_address f) refl)
    rule System (Steps i f args) a x r own p agrees carries h pointer e = by_value System f x r e (by_test i System f _ p pointer)
    rule Replay (CallsBack f args bytes) a x r own p agrees carries h pointer e = absurd cc
    rule System (CallsBack f args bytes) a x r own p agrees carries h pointer e = back f args bytes a x r p agrees carries h e
    rule side Outside a x r own p agrees carries h pointer e = absurd own
    rule side (Below f args) a x r own p agrees carries h pointer e = absurd own
    rule side Turns a x r own p agrees carries h pointer e = absurd cc
    rule side (Loads o at n) a x r own p agrees carries h pointer e = absurd cc
    rule side (Stores o at bytes) a x r own p agrees carries h pointer e = absurd cc
    rule side (Leaves at n) a x r own p agrees carries h pointer e = absurd cc
    rule side (Allocs n) a x r own p agrees carries h pointer e = absurd cc
    rule side (Frees at) a x r own p agrees carries h pointer e = absurd cc
    rule side (Gives f args) a x r own p agrees carries h pointer e = absurd cc
    rule side (Returns f args v) a x r own p agrees carries h pointer e = absurd cc
    rule side (UpReturns f v) a x r own p agrees carries h pointer e = absurd cc
    rule side (Fails kind) a x r own p agrees carries h pointer e = absurd cc

  -- ---- the step of a run

  pub step_kept : (code : IsFitCode w.laid) (past : List Mark) → AreThreads w past → (s : Picked w past) (m : Mark) → IsMade w past s m → KeptAt may (comes w past s.thread) m
  step_kept code past known s m made = subst (λ (n : Next). KeptAt may n m) (sym s.comes_is) by
    where
      by : (x : Answer) (r : Reach) → reply s.side s.want m ≡ Some x → by_pointer s.want ≡ true → reached s.side s.want x ≡ Some r → Runs r
      by x r h pointer e =
          let z = replied s.side s.want m x h in
          rule past s.thread (marks_of (begin w) m.thread (seen past)) s.side s.want m.act x r (own_want w code past known s) made.passes made.agrees
          (λ f. subst (λ (u : ℕ). Carries (interface w) (begin w) u (marks_of (begin w) m.thread (seen past)) s.want m.act) made.mark.of_thread (made.mark.above (z.0 ∙ f)).own.1) z.1 pointer e

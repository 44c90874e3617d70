-- What memory made of steps below the cut, and what it refused.
use Rattle.std.proofs.Common.{◌≡◌, ℕ, ◌^◌, ◌<◌, Bool, true, false, List, length, Option, Some, None, refl, sym, ap, ◌∙◌, subst}
use Rattle.marks.specs.declared.side.Side.TheVariants.{System}
use Rattle.marks.specs.declared.breach.BreachKind.TheVariants.{Mode}
use Rattle.marks.specs.Places.{function_address}
use Rattle.marks.specs.declared.range.Range.{Range}
use Rattle.marks.specs.Ranges.{bytes_of_number, range}
use Rattle.marks.specs.Marks.{Turn, Load, Store, Enter, Leave}
use Rattle.marks.specs.Wants.{Want, Turns, Loads, Stores, Leaves, Go, Value, Frame}
use Rattle.c_code.specs.Machine.{frame_of}
use Rattle.c_code.specs.Typed.{AreArguments, CarriesValues}
use Rattle.replay_runs.specs.Checks.{BreachFound, Finds}
use Rattle.space_memory.specs.Sides.{frames_of, top_of}
use Rattle.space_memory.specs.Spaces.{side_of}
use Rattle.space_memory_laws.specs.FrameMarks.{bytes_with_args}
use Rattle.steps_above_memory.specs.declared.refusal.StepRefusal.{StepRefusal}
use Rattle.steps_above_memory.specs.declared.refusal.StepRefusal.TheVariants as refusal
use Rattle.whole_runs.specs.World.{World, interface, may_run}
use Rattle.whole_runs.specs.Tests.{back_checks, full_check, is_back, tests}
use Rattle.recorder_memory.specs.declared.memory.Memory.{Memory}
use Rattle.recorder_memory.specs.Steps.{Makes, MayRun, MayRunBelow, Refuses}
use Rattle.recorder_memory.specs.Below.{Calling, Plainly, ThroughPointer, frame_want}
use Rattle.recorder_memory.specs.Laws.{IsThere}
use Rattle.recorder_memory.proofs.Quiet.{there, turns}
use Rattle.recorder_threads.specs.Wants.{IsFrameSize, IsTold}
use Rattle.recorder_threads.specs.declared.wants.Want.TheVariants as told
use Rattle.recorder_threads.specs.Threads.{args_at}
use Rattle.recorder_state.specs.declared.state.RunState.{RunState}
use Rattle.recorder_state.specs.declared.stop.Stop.{Stop}
use Rattle.recorder_state.specs.Turns.{IsAtStep}
use Rattle.recorder_state.specs.Ends.{IsRefused, IsStopped}
use Rattle.recorder_state.specs.Plain.{IsPlainStep}
use Rattle.recorder_plain.proofs.Frames.{IsFilled}
use Rattle.recorder_below.specs.Frames.{IsEntering, is_named, told_of}
use Rattle.recorder_plain.proofs.Breaches.{indirect_found, mode_found}
use Rattle.recorder_plain.proofs.Replies.{frame_gives, leave_gives, load_gives, store_gives, turn_gives}
use Rattle.recorder_plain.proofs.Steps.{carries, comes, goes_on, stops_before}

-- a refusal ends a run so
abbrev pub EndsBy : (t : ℕ) → StepRefusal → Stop → Type 0
EndsBy t r end = (v : World) (n : RunState) → IsRefused v n t System r → IsStopped v n end

module _ (w : World) (s : RunState) (t : ℕ) where
  pub turn_goes_on : IsAtStep w s t System told.Turn → IsPlainStep w s t System Go
  turn_goes_on at =
      goes_on w s t System told.Turn at Turns at.told Turn Go s.memory refl refl turn_gives
      (turns s.memory t w at.reached.past (comes w s t System told.Turn at Turns at.told tt))

  -- ---- loads and stores

  module _ (x n : ℕ) (at : IsAtStep w s t System (told.Load x n)) where
    abbrev pub o : Option ℕ
    o = at.told.0

    pub load_goes_on : (v : ℕ) (new : Memory) → v < 256 ^ n → ((q : Option ℕ) → Makes s.memory t System (Loads q x n) (Load q x (bytes_of_number n v)) new) → IsPlainStep w (record s { memory = new }) t System (Value v)
    load_goes_on v new lt makes =
        goes_on w s t System (told.Load x n) at (Loads o x n) at.told.1 (Load o x (bytes_of_number n v)) (Value v) new refl refl (load_gives o x n v lt)
        (makes o w at.reached.past (comes w s t System (told.Load x n) at (Loads o x n) at.told.1 tt))

    pub load_stops : (r : StepRefusal) (end : Stop) (new : Memory) → EndsBy t r end → ((q : Option ℕ) → Refuses s.memory t System (Loads q x n) r) → new ≡ s.memory → IsStopped w (record s { memory = new }) end
    load_stops r end new by refuses same =
        stops_before w s t System (told.Load x n) at (Loads o x n) at.told.1 r end new same by (refuses o w at.reached.past (comes w s t System (told.Load x n) at (Loads o x n) at.told.1 tt))

  module _ (x n v : ℕ) (at : IsAtStep w s t System (told.Store x n v)) where
    abbrev pub p : Option ℕ
    p = at.told.0

    pub store_goes_on : (new : Memory) → ((q : Option ℕ) → Makes s.memory t System (Stores q x (bytes_of_number n v)) (Store q x (bytes_of_number n v)) new) → IsPlainStep w (record s { memory = new }) t System Go
    store_goes_on new makes =
        goes_on w s t System (told.Store x n v) at (Stores p x (bytes_of_number n v)) at.told.1 (Store p x (bytes_of_number n v)) Go new refl refl (store_gives p x (bytes_of_number n v))
        (makes p w at.reached.past (comes w s t System (told.Store x n v) at (Stores p x (bytes_of_number n v)) at.told.1 tt))

    pub store_stops : (r : StepRefusal) (end : Stop) (new : Memory) → EndsBy t r end → ((q : Option ℕ) → Refuses s.memory t System (Stores q x (bytes_of_number n v)) r) → new ≡ s.memory → IsStopped w (record s { memory = new }) end
    store_stops r end new by refuses same =
        stops_before w s t System (told.Store x n v) at (Stores p x (bytes_of_number n v)) at.told.1 r end new same by (refuses p w at.reached.past (comes w s t System (told.Store x n v) at (Stores p x (bytes_of_number n v)) at.told.1 tt))

  -- ---- frames

  module _ (named : Bool) (f size : ℕ) (enters : IsEntering w s t named f size) where
    abbrev pub at : IsAtStep w s t System (told_of enters.how f size)
    at = enters.at

    abbrev pub args : List ℕ
    args = args_at s.threads t

    abbrev pub wants : (bytes : List ℕ) → Want
    wants bytes = frame_want enters.how f args bytes

    pub told_frame : (at.step.want ≡ wants (frame_of w.laid f args)) × IsFrameSize w.laid f args size
    told_frame = by enters.how at.told
      where
        by : (how : Calling) → IsTold w.laid args (told_of how f size) at.step.want → (at.step.want ≡ frame_want how f args (frame_of w.laid f args)) × IsFrameSize w.laid f args size
        by (Plainly i) h = h
        by ThroughPointer h = h

    pub frame_carries : AreArguments w.laid f args
    frame_carries = by enters.how (subst (CarriesValues w.laid) told_frame.0 (carries w s t System (told_of enters.how f size) at))
      where
        by : (how : Calling) → CarriesValues w.laid (frame_want how f args (frame_of w.laid f args)) → AreArguments w.laid f args
        by (Plainly i) h = h
        by ThroughPointer h = h

    pub frame_breaks : (end : Stop) → EndsBy t (refusal.Breach Mode (function_address f) None) end → named ≡ true → may_run w.laid.placed System f ≡ false → IsStopped w s end
    frame_breaks end ends e may_not =
        stops_before w s t System (told_of enters.how f size) at (wants (frame_of w.laid f args)) told_frame.0 (refusal.Breach Mode (function_address f) None) end s.memory refl ends
        (by enters.how enters.plain (sym enters.named_is ∙ e))
      where
        by : (how : Calling) → (how ≡ ThroughPointer → is_back w at.reached.past f ≡ false) → is_named how ≡ true → Finds (tests w at.reached.past t System (frame_want how f args (frame_of w.laid f args))) (BreachFound Mode (function_address f) None)
        by (Plainly i) plain h = indirect_found (interface w) System f (full_check w at.reached.past t (length (frame_of w.laid f args))) i h may_not
        by ThroughPointer plain h = subst (λ b. Finds (back_checks w at.reached.past t f (frame_of w.laid f args) b) (BreachFound Mode (function_address f) None)) (sym (plain refl)) (mode_found (interface w) System f (full_check w at.reached.past t (length (frame_of w.laid f args))) may_not)

    module _ (may : named ≡ true → may_run w.laid.placed System f ≡ true) (offsets widths : List ℕ) (fills : IsFilled w.laid f size args offsets widths) where
      abbrev pub bytes : List ℕ
      bytes = bytes_with_args size offsets widths args

      is : at.step.want ≡ wants bytes
      is = told_frame.0 ∙ ap wants (sym fills.bytes)

      modes : MayRun w at.reached.past System (wants bytes)
      modes = by enters.how enters.plain (λ e. may (enters.named_is ∙ e))
        where
          by : (how : Calling) → (how ≡ ThroughPointer → is_back w at.reached.past f ≡ false) → (is_named how ≡ true → may_run w.laid.placed System f ≡ true) → MayRunBelow w at.reached.past (frame_want how f args bytes)
          by (Plainly i) plain h = h
          by ThroughPointer plain h = (plain refl, h refl)

      pub frame_goes_on : (addr : ℕ) (new : Memory) → ((how : Calling) (g : ℕ) (vs : List ℕ) → Makes s.memory t System (frame_want how g vs bytes) (Enter g vs addr bytes) new) → IsPlainStep w (record s { memory = new }) t System (Frame addr)
      frame_goes_on addr new makes =
          goes_on w s t System (told_of enters.how f size) at (wants bytes) is (Enter f args addr bytes) (Frame addr) new refl refl (frame_gives enters.how f addr args bytes)
          (makes enters.how f args w at.reached.past (comes w s t System (told_of enters.how f size) at (wants bytes) is modes))

      pub frame_stops : (r : StepRefusal) (end : Stop) (new : Memory) → EndsBy t r end → ((how : Calling) (g : ℕ) (vs : List ℕ) → Refuses s.memory t System (frame_want how g vs bytes) r) → new ≡ s.memory → IsStopped w (record s { memory = new }) end
      frame_stops r end new ends refuses same =
          stops_before w s t System (told_of enters.how f size) at (wants bytes) is r end new same ends (refuses enters.how f args w at.reached.past (comes w s t System (told_of enters.how f size) at (wants bytes) is modes))

  module _ (at : IsAtStep w s t System told.Leave) where
    abbrev pub lies : ℕ
    lies = at.told.0

    abbrev pub long : ℕ
    long = at.told.1

    is_there : IsThere w at.reached.past s.memory at.step lies long
    is_there = there w at.reached.past s.memory at.reached.fit at.reached.follows at.reached.memory at.step lies long at.told.2

    pub leave_some : 0 < length (frames_of s.memory.above.spaces.sides.system t)
    leave_some = subst (λ u. 0 < length (frames_of s.memory.above.spaces.sides.system u)) at.thread (subst (λ d. 0 < length (frames_of (side_of s.memory.above.spaces.sides d) at.step.thread)) at.side_is is_there.some)

    leave_top : top_of s.memory.above.spaces.sides.system t ≡ Some (range lies long)
    leave_top = subst (λ u. top_of s.memory.above.spaces.sides.system u ≡ Some (range lies long)) at.thread (subst (λ d. top_of (side_of s.memory.above.spaces.sides d) at.step.thread ≡ Some (range lies long)) at.side_is is_there.top)

    pub leave_goes_on : (frame : Range) (new : Memory) → top_of s.memory.above.spaces.sides.system t ≡ Some frame → Makes s.memory t System (Leaves frame.addr frame.len) (Leave frame.addr frame.len) new → IsPlainStep w (record s { memory = new }) t System Go
    leave_goes_on frame new top makes =
        goes_on w s t System told.Leave at (Leaves frame.addr frame.len) is (Leave frame.addr frame.len) Go new refl refl (leave_gives frame.addr frame.len)
        (makes w at.reached.past (comes w s t System told.Leave at (Leaves frame.addr frame.len) is tt))
      where
        same : range lies long ≡ frame
        same = some_same (range lies long) frame (sym leave_top ∙ top)
          where
            some_same : (a b : Range) → Some a ≡ Some b → a ≡ b
            some_same a b e = cc

        is : at.step.want ≡ Leaves frame.addr frame.len
        is = at.told.2 ∙ ap (λ (r : Range). Leaves r.addr r.len) same

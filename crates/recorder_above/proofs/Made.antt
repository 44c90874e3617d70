-- What memory made of steps above the cut, and what it refused.
use Rattle.std.proofs.Common.{◌≡◌, inl, ℕ, ◌^◌, ◌<◌, Bool, true, false, List, length, Option, Some, None, refl, sym, ap, ◌∙◌, subst, arith}
use Rattle.marks.specs.declared.side.Side.TheVariants.{Replay}
use Rattle.marks.specs.declared.breach.BreachKind.TheVariants.{Mode}
use Rattle.marks.specs.Places.{function_address}
use Rattle.marks.specs.declared.range.Range.{Range}
use Rattle.marks.specs.Ranges.{bytes_of_number, range}
use Rattle.marks.specs.Marks.{Turn, Load, Store, Enter, Leave}
use Rattle.marks.specs.Wants.{Turns, Loads, Stores, Enters, Leaves, Steps, Go, Value, Frame}
use Rattle.c_code.specs.Machine.{frame_of}
use Rattle.c_code.specs.Typed.{AreArguments, CarriesValues}
use Rattle.space_memory.specs.Sides.{frames_of, top_of}
use Rattle.space_memory.specs.Spaces.{side_of}
use Rattle.space_memory_laws.specs.FrameMarks.{bytes_with_args}
use Rattle.steps_above_memory.specs.declared.refusal.StepRefusal.{StepRefusal}
use Rattle.steps_above_memory.specs.declared.refusal.StepRefusal.TheVariants as refusal
use Rattle.steps_above_memory.specs.Steps.{HasCause}
use Rattle.whole_runs.specs.World.{World, interface, may_run}
use Rattle.recorder_memory.specs.declared.memory.Memory.{Memory}
use Rattle.recorder_memory.specs.Stands.{StandsForSeen}
use Rattle.recorder_memory.specs.Steps.{Makes, Refuses}
use Rattle.recorder_memory.specs.Below.{Plainly}
use Rattle.recorder_memory.specs.Laws.{IsThere}
use Rattle.recorder_memory.proofs.AccessesAbove.{turns_above}
use Rattle.recorder_memory.proofs.Quiet.{there}
use Rattle.recorder_threads.specs.declared.wants.Want.{Want as Told}
use Rattle.recorder_threads.specs.declared.wants.Want.TheVariants as told
use Rattle.recorder_threads.specs.Threads.{args_at}
use Rattle.recorder_state.specs.declared.state.RunState.{RunState}
use Rattle.recorder_state.specs.declared.stop.Stop.{Stop}
use Rattle.recorder_state.specs.Turns.{IsAtStep}
use Rattle.recorder_state.specs.Ends.{IsRefused, IsStopped}
use Rattle.recorder_state.specs.Plain.{IsPlainStep}
use Rattle.recorder_plain.proofs.Frames.{IsFilled}
use Rattle.recorder_plain.proofs.Breaches.{indirect_found}
use Rattle.recorder_plain.proofs.Replies.{frame_gives, leave_gives, load_gives, store_gives, turn_gives}
use Rattle.recorder_plain.proofs.Steps.{carries, comes, few, goes_on, refused, stops_before}

-- a refusal ends a run so
abbrev pub EndsBy : (t : ℕ) → StepRefusal → Stop → Type 0
EndsBy t r end = (v : World) (n : RunState) → IsRefused v n t Replay r → IsStopped v n end

module _ (w : World) (s : RunState) (t : ℕ) where
  pub turn_goes_on : IsAtStep w s t Replay told.Turn → IsPlainStep w s t Replay Go
  turn_goes_on at =
      goes_on w s t Replay told.Turn at Turns at.told Turn Go s.memory refl refl turn_gives
      (turns_above s.memory t (few w s t Replay told.Turn at) w at.reached.past (comes w s t Replay told.Turn at Turns at.told tt))

  -- ---- loads and stores

  module _ (x n : ℕ) (at : IsAtStep w s t Replay (told.Load x n)) where
    abbrev pub o : Option ℕ
    o = at.told.0

    pub load_goes_on : (v : ℕ) (new : Memory) → v < 256 ^ n → ((q : Option ℕ) → Makes s.memory t Replay (Loads q x n) (Load q x (bytes_of_number n v)) new) → IsPlainStep w (record s { memory = new }) t Replay (Value v)
    load_goes_on v new lt makes =
        goes_on w s t Replay (told.Load x n) at (Loads o x n) at.told.1 (Load o x (bytes_of_number n v)) (Value v) new refl refl (load_gives o x n v lt)
        (makes o w at.reached.past (comes w s t Replay (told.Load x n) at (Loads o x n) at.told.1 tt))

    pub load_stops : (r : StepRefusal) (end : Stop) (new : Memory) → EndsBy t r end → ((q : Option ℕ) → Refuses s.memory t Replay (Loads q x n) r) → new ≡ s.memory → IsStopped w (record s { memory = new }) end
    load_stops r end new by refuses same =
        stops_before w s t Replay (told.Load x n) at (Loads o x n) at.told.1 r end new same by (refuses o w at.reached.past (comes w s t Replay (told.Load x n) at (Loads o x n) at.told.1 tt))

  module _ (x n v : ℕ) (at : IsAtStep w s t Replay (told.Store x n v)) where
    abbrev pub p : Option ℕ
    p = at.told.0

    pub store_goes_on : (new : Memory) → ((q : Option ℕ) → Makes s.memory t Replay (Stores q x (bytes_of_number n v)) (Store q x (bytes_of_number n v)) new) → IsPlainStep w (record s { memory = new }) t Replay Go
    store_goes_on new makes =
        goes_on w s t Replay (told.Store x n v) at (Stores p x (bytes_of_number n v)) at.told.1 (Store p x (bytes_of_number n v)) Go new refl refl (store_gives p x (bytes_of_number n v))
        (makes p w at.reached.past (comes w s t Replay (told.Store x n v) at (Stores p x (bytes_of_number n v)) at.told.1 tt))

    pub store_stops : (r : StepRefusal) (end : Stop) (new : Memory) → EndsBy t r end → ((q : Option ℕ) → Refuses s.memory t Replay (Stores q x (bytes_of_number n v)) r) → new ≡ s.memory → IsStopped w (record s { memory = new }) end
    store_stops r end new by refuses same =
        stops_before w s t Replay (told.Store x n v) at (Stores p x (bytes_of_number n v)) at.told.1 r end new same by (refuses p w at.reached.past (comes w s t Replay (told.Store x n v) at (Stores p x (bytes_of_number n v)) at.told.1 tt))

  -- ---- frames

  module _ (i : Bool) (f size : ℕ) (at : IsAtStep w s t Replay (told.Enter i f size)) where
    abbrev pub said : Told
    said = told.Enter i f size

    abbrev pub args : List ℕ
    args = args_at s.threads t

    pub enter_carries : AreArguments w.laid f args
    enter_carries = subst (CarriesValues w.laid) at.told.0 (carries w s t Replay said at)

    pub enter_breaks : (end : Stop) → EndsBy t (refusal.Breach Mode (function_address f) None) end → i ≡ true → may_run w.laid.placed Replay f ≡ false → IsStopped w s end
    enter_breaks end by e may_not =
        stops_before w s t Replay said at (Enters i f args (frame_of w.laid f args)) at.told.0 (refusal.Breach Mode (function_address f) None) end s.memory refl by
        (indirect_found (interface w) Replay f _ i e may_not)

    module _ (may : i ≡ true → may_run w.laid.placed Replay f ≡ true) (offsets widths : List ℕ) (fills : IsFilled w.laid f size args offsets widths) where
      abbrev pub bytes : List ℕ
      bytes = bytes_with_args size offsets widths args

      is : at.step.want ≡ Enters i f args bytes
      is = at.told.0 ∙ ap (Enters i f args) (sym fills.bytes)

      pub enter_goes_on : (addr : ℕ) (new : Memory) → ((j : Bool) (g : ℕ) (vs : List ℕ) → Makes s.memory t Replay (Enters j g vs bytes) (Enter g vs addr bytes) new) → IsPlainStep w (record s { memory = new }) t Replay (Frame addr)
      enter_goes_on addr new makes =
          goes_on w s t Replay said at (Enters i f args bytes) is (Enter f args addr bytes) (Frame addr) new refl refl (frame_gives (Plainly i) f addr args bytes)
          (makes i f args w at.reached.past (comes w s t Replay said at (Enters i f args bytes) is may))

      pub enter_stops : (r : StepRefusal) (end : Stop) (new : Memory) → EndsBy t r end → ((j : Bool) (g : ℕ) (vs : List ℕ) → Refuses s.memory t Replay (Enters j g vs bytes) r) → new ≡ s.memory → IsStopped w (record s { memory = new }) end
      enter_stops r end new by refuses same =
          stops_before w s t Replay said at (Enters i f args bytes) is r end new same by (refuses i f args w at.reached.past (comes w s t Replay said at (Enters i f args bytes) is may))

  module _ (at : IsAtStep w s t Replay told.Leave) where
    abbrev pub lies : ℕ
    lies = at.told.0

    abbrev pub long : ℕ
    long = at.told.1

    is_there : IsThere w at.reached.past s.memory at.step lies long
    is_there = there w at.reached.past s.memory at.reached.fit at.reached.follows at.reached.memory at.step lies long at.told.2

    pub leave_some : 0 < length (frames_of s.memory.above.spaces.sides.replay t)
    leave_some = subst (λ u. 0 < length (frames_of s.memory.above.spaces.sides.replay u)) at.thread (subst (λ d. 0 < length (frames_of (side_of s.memory.above.spaces.sides d) at.step.thread)) at.side_is is_there.some)

    leave_top : top_of s.memory.above.spaces.sides.replay t ≡ Some (range lies long)
    leave_top = subst (λ u. top_of s.memory.above.spaces.sides.replay u ≡ Some (range lies long)) at.thread (subst (λ d. top_of (side_of s.memory.above.spaces.sides d) at.step.thread ≡ Some (range lies long)) at.side_is is_there.top)

    pub leave_goes_on : (frame : Range) (new : Memory) → top_of s.memory.above.spaces.sides.replay t ≡ Some frame → Makes s.memory t Replay (Leaves frame.addr frame.len) (Leave frame.addr frame.len) new → IsPlainStep w (record s { memory = new }) t Replay Go
    leave_goes_on frame new top makes =
        goes_on w s t Replay told.Leave at (Leaves frame.addr frame.len) is (Leave frame.addr frame.len) Go new refl refl (leave_gives frame.addr frame.len)
        (makes w at.reached.past (comes w s t Replay told.Leave at (Leaves frame.addr frame.len) is tt))
      where
        same : range lies long ≡ frame
        same = some_same (range lies long) frame (sym leave_top ∙ top)
          where
            some_same : (a b : Range) → Some a ≡ Some b → a ≡ b
            some_same a b e = cc

        is : at.step.want ≡ Leaves frame.addr frame.len
        is = at.told.2 ∙ ap (λ (r : Range). Leaves r.addr r.len) same

    pub leave_stops : (r : StepRefusal) (end : Stop) (new : Memory) → ((v : World) (n : RunState) → (HasCause r → IsRefused v n t Replay r) → IsStopped v n end) → ((frame : Range) → top_of s.memory.above.spaces.sides.replay t ≡ Some frame → Refuses s.memory t Replay (Leaves frame.addr frame.len) r) → (HasCause r → new ≡ s.memory) → IsStopped w (record s { memory = new }) end
    leave_stops r end new by refuses same =
        by w (record s { memory = new }) (λ cause. refused w s t Replay told.Leave at (Leaves lies long) at.told.2 r new
        (refuses (range lies long) leave_top w at.reached.past (comes w s t Replay told.Leave at (Leaves lies long) at.told.2 tt))
        (subst (StandsForSeen w at.reached.past) (sym (same cause)) at.reached.memory.above))

  -- ---- what is no step

  pub step_breaks : (i : Bool) (f : ℕ) → IsAtStep w s t Replay (told.Step i f) → (end : Stop) → EndsBy t (refusal.Breach Mode (function_address f) None) end → IsStopped w s end
  step_breaks i f at end by =
      stops_before w s t Replay (told.Step i f) at (Steps i f (args_at s.threads t)) at.told (refusal.Breach Mode (function_address f) None) end s.memory refl by
      (inl (function_address f, (refl, λ y bad. (let e : y ≡ function_address f = bad in omega (arith, e))), refl))

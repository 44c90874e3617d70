-- Frames below the cut.
use Rattle.std.proofs.Common.{◌≡◌, ℕ, ◌+◌, ◌<◌, ◌≤◌, List, [], ◌∷◌, ◌++◌, length, Some, None, refl, sym, ap, ◌∙◌, subst}
use Rattle.std.specs.Prelude.{IfSome, unwrap_or, slice_index}
use Rattle.std.proofs.lemmas.List.FromFn.{length-map-range_with_len}
use Rattle.marks.specs.declared.side.Side.TheVariants.{System}
use Rattle.marks.specs.Places.{thread_count}
use Rattle.marks.specs.declared.range.Range.{Range}
use Rattle.marks.specs.Marks.{Enter, Leave}
use Rattle.marks.specs.Wants.{Leaves}
use Rattle.space_memory_bytes.specs.Areas.{byte_at, extents}
use Rattle.space_memory_bytes.specs.Numbers.{FillsWith}
use Rattle.space_memory_access.specs.declared.refusal.Refusal.{Refusal}
use Rattle.space_memory.specs.StackFrames.{stack_of, end_of}
use Rattle.space_memory.specs.declared.sides.Sides.{Sides}
use Rattle.space_memory.specs.Sides.{frames_of, top_of, with_thread}
use Rattle.space_memory.specs.Spaces.{SpaceState, with_side}
use Rattle.space_memory.specs.Frames.{IsEnterRefused, with_args}
use Rattle.space_memory_laws.specs.FrameMarks.{bytes_with_args}
use Rattle.space_memory_laws.specs.Refusals.{finding_of}
use Rattle.replay_runs.specs.Checks.{Passes, Finds}
use Rattle.steps_above_memory.specs.declared.refusal.StepRefusal.{StepRefusal}
use Rattle.steps_above_memory.specs.Refusals.{IsFound, refusal_of}
use Rattle.steps_above_memory.proofs.Entering.{top_with}
use Rattle.steps_above_memory.proofs.Ranges.{as_found}
use Rattle.whole_runs.specs.Tests.{full_check, tests}
use Rattle.whole_runs_memory.specs.Below.{IsEnterBelow}
use Rattle.whole_runs_memory.proofs.Below as whole
use Rattle.whole_runs_memory.proofs.Refusals as refusals
use Rattle.recorder_memory.specs.declared.memory.Memory.{Memory}
use Rattle.recorder_memory.specs.Steps.{Makes, Refuses, next_mark}
use Rattle.recorder_memory.specs.Below.{Calling, frame_want}
use Rattle.recorder_memory.proofs.Replies.{frame_answers, leave_answers}
use Rattle.recorder_memory.proofs.Modes.{frame_passes, frame_finds, frame_stays}
use Rattle.recorder_memory.proofs.Marking.{below_stands, below_marked}

module _ (old new : Memory) (t size : ℕ) (offsets widths args : List ℕ) (lt : t < thread_count)
    (widths_same : length widths ≡ length offsets) (args_same : length args ≡ length offsets)
    (fit : (i : ℕ) → i < length offsets → slice_index offsets i + slice_index widths i ≤ size) where
  abbrev bytes : List ℕ
  bytes = bytes_with_args size offsets widths args

  abbrev frame : ℕ → Range
  frame addr = record { addr = addr; len = size }

  abbrev memory : SpaceState
  memory = old.above.spaces

  count : length (bytes_with_args size offsets widths args) ≡ size
  count = length-map-range_with_len (λ i. unwrap_or (with_args 0 offsets widths args i (Some 0)) 0) 0 size

  pub enter_refused : (refused : Refusal) (found : StepRefusal) → IsEnterRefused (stack_of memory.sides.system.stacks t) size refused →
      found ≡ refusal_of refused → (how : Calling) (f : ℕ) (values : List ℕ) →
      Refuses old t System (frame_want how f values (bytes_with_args size offsets widths args)) found
  enter_refused refused found p is how f values w past to =
      subst (IsFound (tests w past t System (frame_want how f values bytes))) (sym is)
      (as_found (tests w past t System (frame_want how f values bytes)) refused
      (frame_finds w past t f values how bytes _ to.modes
      (subst (λ n. Finds (full_check w past t n) (finding_of refused)) (sym count) ((refusals.full w past memory t size to.stands.whole lt).of_refused refused p))))

  pub top_entered : (addr : ℕ) (entered : SpaceState) → t < length memory.sides.system.stacks →
      entered.sides ≡ with_side memory.sides System (with_thread memory.sides.system t (frames_of memory.sides.system t ++ record { addr = addr; len = size } ∷ [])) →
      top_of entered.sides.system t ≡ Some (record { addr = addr; len = size })
  top_entered addr entered there sides = ap (λ (q : Sides). top_of q.system t) sides ∙ top_with memory.sides.system t (frames_of memory.sides.system t) (frame addr) there

  pub enter_made : (addr : ℕ) (entered : SpaceState) → t < length memory.sides.system.stacks →
      entered.sides ≡ with_side memory.sides System (with_thread memory.sides.system t (frames_of memory.sides.system t ++ record { addr = addr; len = size } ∷ [])) →
      addr ≡ end_of (stack_of memory.sides.system.stacks t).base (frames_of memory.sides.system t) →
      ((r : Refusal) → IsEnterRefused (stack_of memory.sides.system.stacks t) size r → ⊥) →
      FillsWith (record { addr = addr; len = size }) (Some 0) memory.bytes entered.bytes → entered.held ≡ memory.held →
      extents new.above.spaces.bytes ≡ extents entered.bytes →
      IfSome (top_of entered.sides.system t) (λ r. (x : ℕ) → byte_at new.above.spaces.bytes x ≡ with_args r.addr offsets widths args x (byte_at entered.bytes x)) →
      new.above.spaces ≡ record entered { bytes = new.above.spaces.bytes } → new.above.watch ≡ old.above.watch →
      (how : Calling) (f : ℕ) (values : List ℕ) →
      Makes old t System (frame_want how f values (bytes_with_args size offsets widths args)) (Enter f values addr (bytes_with_args size offsets widths args)) new
  enter_made addr entered there sides place none fills held areas set rest same how f values w past to =
      below_marked w past old new t (frame_want how f values bytes) to (Enter f values addr bytes) refl (frame_answers how f addr values bytes)
      (frame_stays w past t f values how bytes to.modes, is.place)
      (frame_passes w past t f values how bytes to.modes (subst (λ n. Passes (full_check w past t n)) (sym count) ((refusals.full w past memory t size to.stands.whole lt).passes.1 none)))
      (below_stands w past old new (next_mark w past t System (Enter f values addr bytes)) refl to.stands same is.stands)
    where
      set_there : (x : ℕ) → byte_at new.above.spaces.bytes x ≡ with_args addr offsets widths args x (byte_at entered.bytes x)
      set_there = subst (λ o. IfSome o (λ (r : Range). (x : ℕ) → byte_at new.above.spaces.bytes x ≡ with_args r.addr offsets widths args x (byte_at entered.bytes x))) (top_entered addr entered there sides) set

      is : IsEnterBelow w past (next_mark w past t System (Enter f values addr bytes)) addr size new.above.spaces
      is = whole.enters w past memory entered new.above.spaces (next_mark w past t System (Enter f values addr bytes)) f values offsets widths args addr size to.stands.whole refl lt
          (record { place = place; fits = none; sides = sides; held = held }) fills args_same areas
          (record { widths_same = widths_same; fit = fit; set = set_there; rest = rest }) refl

module _ (old new : Memory) (t : ℕ) (frame : Range) (lt : t < thread_count) where
  pub leave_made : frames_of old.above.spaces.sides.system t ≡ frames_of new.above.spaces.sides.system t ++ frame ∷ [] →
      new.above.spaces.sides ≡ with_side old.above.spaces.sides System (with_thread old.above.spaces.sides.system t (frames_of new.above.spaces.sides.system t)) →
      FillsWith frame None old.above.spaces.bytes new.above.spaces.bytes → new.above.spaces.held ≡ old.above.spaces.held →
      new.above.watch ≡ old.above.watch → Makes old t System (Leaves frame.addr frame.len) (Leave frame.addr frame.len) new
  leave_made left sides dead held same w past to =
      below_marked w past old new t (Leaves frame.addr frame.len) to (Leave frame.addr frame.len) refl (leave_answers frame.addr frame.len) tt tt
      (below_stands w past old new (next_mark w past t System (Leave frame.addr frame.len)) refl to.stands same
      (whole.leaves w past old.above.spaces new.above.spaces (next_mark w past t System (Leave frame.addr frame.len)) frame to.stands.whole refl lt (record { frames = left; sides = sides; dead = dead; held = held }) refl))

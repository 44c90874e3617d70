-- Frames above the cut.
use Rattle.std.proofs.Common.{ℕ, ◌<◌, Bool, List, refl}
use Rattle.marks.specs.declared.side.Side.TheVariants.{Replay}
use Rattle.marks.specs.Places.{thread_count}
use Rattle.marks.specs.declared.range.Range.{Range}
use Rattle.marks.specs.Marks.{Enter, Leave}
use Rattle.marks.specs.Wants.{Enters, Leaves}
use Rattle.space_memory_laws.specs.Changes.{IsEntered}
use Rattle.steps_above_memory.specs.Spaces.{LeavesFrame}
use Rattle.steps_above_memory.specs.Steps as above
use Rattle.whole_runs.specs.World.{program_of}
use Rattle.whole_runs.specs.Sides.{seen}
use Rattle.whole_runs_memory.specs.Above.{IsEnterAbove}
use Rattle.whole_runs_memory.proofs.Above as whole
use Rattle.recorder_memory.specs.declared.memory.Memory.{Memory}
use Rattle.recorder_memory.specs.Stands.{placed}
use Rattle.recorder_memory.specs.Steps.{Makes, next_mark}
use Rattle.recorder_memory.proofs.Replies.{enters_answers, leave_answers}
use Rattle.recorder_memory.proofs.MarkingAbove.{is_wanted, above_marked}

module _ (old new : Memory) (t : ℕ) (lt : t < thread_count) where
  pub enter_made : (i : Bool) (f addr size : ℕ) (values bytes : List ℕ) →
      above.Makes old.above t (Enters i f values bytes) (Enter f values addr bytes) new.above →
      IsEntered Replay old.above.spaces new.above.spaces t addr size bytes →
      Makes old t Replay (Enters i f values bytes) (Enter f values addr bytes) new
  enter_made i f addr size values bytes makes entered w past to =
      let want = Enters i f values bytes in
      let act = Enter f values addr bytes in
      let made = makes (program_of w) (placed w) (seen past) to.stands.above to.modes in
      let is : IsEnterAbove w past (next_mark w past t Replay act) addr new.above.spaces =
      whole.enters w past old.above.spaces new.above.spaces
      (next_mark w past t Replay act) f values bytes addr size to.stands.whole refl lt entered refl in
      above_marked w past old t want to refl new act refl (enters_answers i f addr values bytes) (refl, is.place) made.passes
      (made.stands (is_wanted w past old t want to refl))
      is.stands

  pub leave_made : (frame : Range) → above.Makes old.above t (Leaves frame.addr frame.len) (Leave frame.addr frame.len) new.above →
      LeavesFrame old.above.spaces new.above.spaces t frame →
      Makes old t Replay (Leaves frame.addr frame.len) (Leave frame.addr frame.len) new
  leave_made frame makes left w past to =
      let want = Leaves frame.addr frame.len in
      let act = Leave frame.addr frame.len in
      let made = makes (program_of w) (placed w) (seen past) to.stands.above to.modes in
      above_marked w past old t want to refl new act refl (leave_answers frame.addr frame.len) tt made.passes
      (made.stands (is_wanted w past old t want to refl))
      (whole.leaves w past old.above.spaces new.above.spaces (next_mark w past t Replay act) frame to.stands.whole refl lt left.free left.left refl)

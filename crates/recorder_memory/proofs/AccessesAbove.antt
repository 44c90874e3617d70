-- Loads, stores and Turns above the cut.
use Rattle.std.proofs.Common.{◌≡◌, ℕ, ◌^◌, ◌<◌, ◌∷◌, Option, refl, sym, subst}
use Rattle.marks.specs.declared.side.Side.TheVariants.{Replay}
use Rattle.marks.specs.Ranges.{bytes_of_number}
use Rattle.marks.specs.Marks.{Load, Store, Turn}
use Rattle.marks.specs.Wants.{Loads, Stores, Turns}
use Rattle.space_memory_bytes.specs.Numbers.{HasNumber}
use Rattle.space_memory_laws.specs.Changes.{IsStored}
use Rattle.steps_above_memory.specs.Steps as above
use Rattle.steps_above_memory.proofs.Turning.{turned}
use Rattle.whole_runs.specs.World.{program_of}
use Rattle.whole_runs.specs.Sides.{seen}
use Rattle.whole_runs_memory.specs.Stands.{IsWholeMark, StandsForWhole}
use Rattle.whole_runs_memory.proofs.Above as whole
use Rattle.whole_runs_memory.proofs.Plain.{loads, plain}
use Rattle.recorder_memory.specs.declared.memory.Memory.{Memory}
use Rattle.recorder_memory.specs.Stands.{placed}
use Rattle.recorder_memory.specs.Steps.{Makes, next_mark}
use Rattle.recorder_memory.specs.Laws.{TurnsAboveLeaveMemory}
use Rattle.recorder_memory.proofs.Replies.{turn_answers, load_answers, store_answers}
use Rattle.recorder_memory.proofs.MarkingAbove.{is_wanted, above_marked}

module _ (old new : Memory) (t addr width value : ℕ) (origin : Option ℕ) where
  pub load_made : above.Makes old.above t (Loads origin addr width) (Load origin addr (bytes_of_number width value)) new.above →
      HasNumber old.above.spaces.bytes addr width value → new.above.spaces ≡ old.above.spaces →
      Makes old t Replay (Loads origin addr width) (Load origin addr (bytes_of_number width value)) new
  load_made makes has same w past to =
      let want = Loads origin addr width in
      let act = Load origin addr (bytes_of_number width value) in
      let made = makes (program_of w) (placed w) (seen past) to.stands.above to.modes in
      let mark : IsWholeMark w past want (next_mark w past t Replay act) old.above.spaces = loads w past old.above.spaces (next_mark w past t Replay act) want origin addr width value to.stands.whole has refl in
      above_marked w past old t want to refl new act refl (load_answers origin addr width value) mark.agrees made.passes
      (made.stands (is_wanted w past old t want to refl))
      (subst (StandsForWhole w (next_mark w past t Replay act ∷ past)) (sym same) mark.stands)

  pub store_made : addr < 2 ^ 64 →
      above.Makes old.above t (Stores origin addr (bytes_of_number width value)) (Store origin addr (bytes_of_number width value)) new.above →
      IsStored Replay old.above.spaces new.above.spaces t addr width value →
      Makes old t Replay (Stores origin addr (bytes_of_number width value)) (Store origin addr (bytes_of_number width value)) new
  store_made small makes stored w past to =
      let bytes = bytes_of_number width value in
      let want = Stores origin addr bytes in
      let act = Store origin addr bytes in
      let made = makes (program_of w) (placed w) (seen past) to.stands.above to.modes in
      above_marked w past old t want to refl new act refl (store_answers origin addr bytes) tt made.passes
      (made.stands (is_wanted w past old t want to refl))
      (whole.stores w past old.above.spaces new.above.spaces (next_mark w past t Replay act) origin t addr width value to.stands.whole refl small stored refl)

pub turns_above : TurnsAboveLeaveMemory
turns_above memory t lt w past to =
    let made = turned memory.above t lt (program_of w) (placed w) (seen past) to.stands.above to.modes in
    above_marked w past memory t Turns to refl memory Turn refl turn_answers tt made.passes
    (made.stands (is_wanted w past memory t Turns to refl))
    (plain w past memory.above.spaces (next_mark w past t Replay Turn) to.stands.whole tt)

-- The memory of a whole run.
use Rattle.std.specs.Prelude.{◌≡◌, List, ◌∷◌}
use Rattle.marks.specs.Marks.{Mark}
use Rattle.space_memory.specs.Spaces.{SpaceState}
use Rattle.space_memory_laws.specs.StandsFor.{StandsFor}
use Rattle.whole_runs.specs.World.{World, begin}
use Rattle.whole_runs.specs.Sides.{seen}
use Rattle.whole_runs.specs.Ends.{Follows}
use Rattle.whole_runs.specs.Fits.{IsFit}
use Rattle.reference_recorder_marks.specs.declared.mark.Mark.{Mark as Told}
use Rattle.reference_recorder_marks.specs.Marks.{mark_of, without_origin}
use Rattle.reference_recorder_threads.specs.Telling.{IsPast}
use Rattle.reference_recorder_spaces.specs.Next.{IsUntouched}

-- memory above the cut is that of each run that comes to the marks
abbrev pub IsMemoryAfter : World → List Told → SpaceState → Type 0
IsMemoryAfter w marks memory = (p : IsPast w marks) → StandsFor (begin w) (seen p.run) memory

-- a run makes the mark next, after marks that memory stands for
pub record IsMarkNext (w : World) (memory : SpaceState) (told : Told) : Type 0 where
  pub fit : IsFit w
  pub past : List Mark
  pub mark : Mark
  pub same : record mark { act = without_origin mark.act } ≡ mark_of told
  pub follows : Follows w (mark ∷ past)
  pub stands : StandsFor (begin w) (seen past) memory
  pub untouched : IsUntouched memory

-- then memory stands for the run with it, and is untouched still
abbrev pub StandsForMore : World → (old : SpaceState) → Told → (new : SpaceState) → Type 0
StandsForMore w old told new = (n : IsMarkNext w old told) →
    StandsFor (begin w) (seen (n.mark ∷ n.past)) new × IsUntouched new

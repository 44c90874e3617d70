-- What is read below the cut.
use Rattle.std.specs.Prelude.{◌≡◌, ℕ, true, List}
use Rattle.marks.specs.declared.range.Range.{Range}
use Rattle.marks.specs.Ranges.{Piece, any_range, piece_ranges}
use Rattle.replay_runs.specs.Rules.{AreWhole}
use Rattle.whole_runs.specs.World.{World}
use Rattle.whole_runs.specs.Memory.{HasAll, real}
use Rattle.reference_recorder_marks.specs.declared.mark.Mark.{Mark}
use Rattle.reference_recorder_marks.specs.Marks.{past}
use Rattle.reference_recorder_acts.specs.Bytes.{IsThere}

-- each byte of these ranges is there
abbrev pub AllThere : World → List Mark → List Range → Type 0
AllThere w marks rs = (x : ℕ) → any_range rs x ≡ true → IsThere w marks x

-- these are the ranges with all of their bytes
pub record AreRead (w : World) (marks : List Mark) (ranges : List Range) (pieces : List Piece) : Type 0 where
  pub ranges_are : piece_ranges pieces ≡ ranges
  pub whole : AreWhole pieces
  pub read : HasAll (real w (past marks)) pieces

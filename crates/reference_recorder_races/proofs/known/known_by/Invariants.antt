use Rattle.std.proofs.Common.{◌≡◌, ℕ, take}
use Rattle.replay_runs.specs.Known.{known}
use Rattle.whole_runs.specs.Sides.{seen}
use Rattle.reference_recorder_marks.specs.Marks.{past}
use Rattle.reference_recorder_stamps.specs.Links.{link_of}
use Rattle.reference_recorder_races.specs.Told.{AreTold}
use Rattle.reference_recorder_races.proofs.known.known_by.Given as goal

abbrev pub invariant-loop-at : goal.invariant-loop-at
invariant-loop-at l = (t : ℕ) → AreTold t l.marks l.told → l.known ≡ known (seen (past (take l.at l.marks))) (link_of l.link) t

use Rattle.std.proofs.Common.{take}
use Rattle.reference_recorder_races.specs.Told.{AreTold}
use Rattle.reference_recorder_races.proofs.known.told_by.Given as goal

abbrev pub invariant-loop-at : goal.invariant-loop-at
invariant-loop-at l = AreTold l.thread (take l.at l.marks) l.told.items

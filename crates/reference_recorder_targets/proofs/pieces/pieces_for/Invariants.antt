use Rattle.std.proofs.Common.{◌≡◌, ◌++◌}
use Rattle.reference_recorder_targets.proofs.Answered.{from}
use Rattle.reference_recorder_targets.proofs.pieces.pieces_for.Given as goal

abbrev pub invariant-loop-place : goal.invariant-loop-place
invariant-loop-place l = l.pieces.items ++ from l.targets l.answers l.place ≡ from l.targets l.answers 0

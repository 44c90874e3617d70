use Rattle.std.proofs.Common.{take}
use Rattle.recorder_returns.specs.Copies.{AreCopies}
use Rattle.recorder_returns.proofs.copying.copy_all.Given as goal

abbrev pub invariant-loop-i : goal.invariant-loop-i
invariant-loop-i l = AreCopies l.spaces.bytes (take l.i l.regions) (take l.i l.used) l.pieces

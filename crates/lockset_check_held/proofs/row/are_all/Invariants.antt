use Rattle.lockset_check_held.proofs.Bits.{AreIn}
use Rattle.lockset_check_held.proofs.row.are_all.Given as goal

abbrev pub invariant-loop-i : goal.invariant-loop-i
invariant-loop-i l = AreIn l.words l.others l.i

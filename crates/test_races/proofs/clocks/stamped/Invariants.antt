use Rattle.std.proofs.Common.{◌≡◌, ◌≤◌, length}
use Rattle.test_races.proofs.clocks.stamped.Given as goal

abbrev pub invariant-loop-case : goal.invariant-loop-case
invariant-loop-case l = (l.clocks.events ≤ l.case-index) × (length l.clocks.threads ≡ 3) × (l.right ≤ l.case-index)

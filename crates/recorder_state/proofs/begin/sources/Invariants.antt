use Rattle.std.proofs.Common.{◌-◌, ◌≤◌, length}
use Rattle.recorder_state.proofs.begin.sources.Given as goal

abbrev pub invariant-loop-count : goal.invariant-loop-count
invariant-loop-count l = l.count ≤ length l.code.sources

abbrev pub decreases-loop-count : goal.decreases-loop-count
decreases-loop-count l = length l.code.sources - l.count

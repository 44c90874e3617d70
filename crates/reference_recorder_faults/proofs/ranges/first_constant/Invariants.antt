use Rattle.std.proofs.Common.{ℕ, ◌<◌, get_or}
use Rattle.replay_runs.specs.Rules.{SomeConstant}
use Rattle.reference_recorder_faults.specs.Ranges.{no_range}
use Rattle.reference_recorder_faults.proofs.ranges.first_constant.Given as goal

-- none so far has one
abbrev pub invariant-loop-place : goal.invariant-loop-place
invariant-loop-place l = (k : ℕ) → k < l.place → SomeConstant (get_or l.ranges k no_range) → ⊥

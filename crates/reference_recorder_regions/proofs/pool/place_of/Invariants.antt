use Rattle.std.proofs.Common.{◌≡◌, ◌++◌, drop, take}
use Rattle.replay_runs.specs.Pool.{without}
use Rattle.reference_recorder_regions.proofs.pool.place_of.Given as goal

abbrev pub invariant-loop-place : goal.invariant-loop-place
invariant-loop-place l = without l.at l.blocks ≡ take l.place l.blocks ++ without l.at (drop l.place l.blocks)

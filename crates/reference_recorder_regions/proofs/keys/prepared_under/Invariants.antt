use Rattle.std.proofs.Common.{◌≡◌, drop}
use Rattle.replay_runs.specs.Pool.{prepared_under}
use Rattle.reference_recorder_regions.proofs.keys.prepared_under.Given as goal

abbrev pub invariant-loop-one : goal.invariant-loop-one
invariant-loop-one l = prepared_under (drop l.one-index l.prepared) l.key l.region ≡ prepared_under l.prepared l.key l.region

use Rattle.std.proofs.Common.{◌≡◌, drop}
use Rattle.replay_runs.specs.Checks.{any_number}
use Rattle.reference_recorder_uses.proofs.preparing.any_number.Given as goal

abbrev pub invariant-loop-one : goal.invariant-loop-one
invariant-loop-one l = any_number l.keys l.key ≡ any_number (drop l.one-index l.keys) l.key

use Rattle.std.proofs.Common.{◌≡◌, take}
use Rattle.whole_runs.specs.Below.{last_under}
use Rattle.reference_recorder_targets.proofs.prepared.last_under.Given as goal

abbrev pub invariant-loop-prepared : goal.invariant-loop-prepared
invariant-loop-prepared l = l.last ≡ last_under l.key (take l.prepared-index l.prepares)

use Rattle.std.proofs.Common.{◌≡◌, drop}
use Rattle.reference_recorder_rights.specs.Rights.{any_holds}
use Rattle.reference_recorder_rights.proofs.opens.any_holds.Given as goal

abbrev pub invariant-loop-flags : goal.invariant-loop-flags
invariant-loop-flags l = any_holds (drop l.flags-index l.calls) ≡ any_holds l.calls

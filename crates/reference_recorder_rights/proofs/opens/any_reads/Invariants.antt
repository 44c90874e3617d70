use Rattle.std.proofs.Common.{◌≡◌, drop}
use Rattle.reference_recorder_rights.specs.Rights.{any_reads}
use Rattle.reference_recorder_rights.proofs.opens.any_reads.Given as goal

abbrev pub invariant-loop-flags : goal.invariant-loop-flags
invariant-loop-flags l = any_reads (drop l.flags-index l.calls) ≡ any_reads l.calls

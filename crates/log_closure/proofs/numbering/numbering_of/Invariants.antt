use Rattle.std.proofs.Common.{take}
use Rattle.log_closure.specs.KeyNumbers.{IsNumbering}
use Rattle.log_closure.proofs.numbering.numbering_of.Given as goal

abbrev pub invariant-loop-entry : goal.invariant-loop-entry
invariant-loop-entry l = IsNumbering l.numbering (take l.entry-index l.records)

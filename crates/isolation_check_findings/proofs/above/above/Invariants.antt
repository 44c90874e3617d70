use Rattle.std.proofs.Common.{length}
use Rattle.isolation_check_findings.specs.Found.{Adds, IsAbove, IsBelow}
use Rattle.isolation_check_findings.proofs.above.above.Given as goal

abbrev pub invariant-loop-caller : goal.invariant-loop-caller
invariant-loop-caller l =
    Adds (IsBelow l.caller (IsAbove l.program l.mentions l.sides.above.now l.sides.faces.now (length l.program.functions))) l.initial.found.items l.found.items

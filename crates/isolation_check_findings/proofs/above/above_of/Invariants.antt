use Rattle.isolation_check_findings.specs.Found.{Adds, IsAboveAt, IsBelow}
use Rattle.isolation_check_findings.proofs.above.above_of.Given as goal

abbrev pub invariant-loop-external : goal.invariant-loop-external
invariant-loop-external l =
    Adds (IsBelow l.external (IsAboveAt l.program l.mentions l.sides.faces.now l.caller)) l.initial.found.items l.found.items

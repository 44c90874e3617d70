use Rattle.isolation_check_findings.specs.Found.{Adds, IsBelow, IsSharedAt}
use Rattle.isolation_check_findings.proofs.shared.shared.Given as goal

abbrev pub invariant-loop-place : goal.invariant-loop-place
invariant-loop-place l =
    Adds (IsBelow l.place (IsSharedAt l.program l.mentions.functions l.sides.above.now l.sides.below.now)) l.initial.found.items l.found.items

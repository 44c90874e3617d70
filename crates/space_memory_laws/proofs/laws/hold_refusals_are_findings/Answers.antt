use Rattle.space_memory_laws.proofs.laws.hold_refusals_are_findings.Goals as goal
use Rattle.space_memory_laws.proofs.CallChecks.{hold_finds}

pub returns : goal.returns
returns c s past base memory t ins before r given k u = hold_finds s past base memory t ins before r given k u

use Rattle.space_memory_laws.proofs.laws.refusals_are_findings.Goals as goal
use Rattle.space_memory_laws.proofs.Refusals.{findings}

pub returns : goal.returns
returns c = findings

use Rattle.space_memory_laws.proofs.laws.read_refusals_are_findings.Goals as goal
use Rattle.space_memory_laws.proofs.CallChecks.{read_finds}

pub returns : goal.returns
returns c s past base memory t before r given k u = read_finds s past base memory t before r given k u

use Rattle.space_memory_laws.proofs.laws.refused_returns_are_findings.Goals as goal
use Rattle.space_memory_laws.proofs.ReturnChecks.{returns_found}

pub returns : goal.returns
returns c i s past memory t func args result used committing h lt closes sizes is = returns_found i s past memory t func args result used committing h lt closes sizes is

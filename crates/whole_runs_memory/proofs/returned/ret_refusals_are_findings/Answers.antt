use Rattle.whole_runs_memory.proofs.returned.ret_refusals_are_findings.Goals as goal
use Rattle.whole_runs_memory.proofs.RetChecks.{rets}

pub returns : goal.returns
returns c = rets

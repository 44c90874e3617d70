use Rattle.whole_runs_memory.proofs.returned.body_ret_refusals_are_findings.Goals as goal
use Rattle.whole_runs_memory.proofs.RetChecks.{body_rets}

pub returns : goal.returns
returns c = body_rets

use Rattle.whole_runs_memory.proofs.refused.free_refusals_below_are_findings.Goals as goal
use Rattle.whole_runs_memory.proofs.Refusals.{free}

pub returns : goal.returns
returns c = free

use Rattle.whole_runs_memory.proofs.refused.touch_refusals_are_findings.Goals as goal
use Rattle.whole_runs_memory.proofs.Refusals.{touches}

pub returns : goal.returns
returns c = touches

use Rattle.whole_runs_memory.proofs.refused.full_stacks_below_are_found.Goals as goal
use Rattle.whole_runs_memory.proofs.Refusals.{full}

pub returns : goal.returns
returns c = full

use Rattle.whole_runs_memory.proofs.returned.answers_lie_in_regions.Goals as goal
use Rattle.whole_runs_memory.proofs.Rets.{lie}

pub returns : goal.returns
returns c = lie

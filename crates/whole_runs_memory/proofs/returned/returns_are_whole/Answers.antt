use Rattle.whole_runs_memory.proofs.returned.returns_are_whole.Goals as goal
use Rattle.whole_runs_memory.proofs.Rets.{returned}

pub returns : goal.returns
returns c = returned

use Rattle.whole_runs_memory.proofs.returned.rets_bring_what_is_there.Goals as goal
use Rattle.whole_runs_memory.proofs.Rets.{brings}

pub returns : goal.returns
returns c = brings

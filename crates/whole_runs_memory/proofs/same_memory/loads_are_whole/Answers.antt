use Rattle.whole_runs_memory.proofs.same_memory.loads_are_whole.Goals as goal
use Rattle.whole_runs_memory.proofs.Plain.{loads}

pub returns : goal.returns
returns c = loads

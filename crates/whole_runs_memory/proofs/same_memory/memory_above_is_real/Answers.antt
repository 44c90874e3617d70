use Rattle.whole_runs_memory.proofs.same_memory.memory_above_is_real.Goals as goal
use Rattle.whole_runs_memory.proofs.Plain.{above_real}

pub returns : goal.returns
returns c = above_real

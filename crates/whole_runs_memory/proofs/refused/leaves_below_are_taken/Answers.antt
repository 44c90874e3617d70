use Rattle.whole_runs_memory.proofs.refused.leaves_below_are_taken.Goals as goal
use Rattle.whole_runs_memory.proofs.Plain.{taken}

pub returns : goal.returns
returns c = taken

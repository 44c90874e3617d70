use Rattle.whole_runs_memory.proofs.before_run.new_memory_is_whole.Goals as goal
use Rattle.whole_runs_memory.proofs.Plain.{new_memory}

pub returns : goal.returns
returns c = new_memory

use Rattle.whole_runs_memory.proofs.same_memory.frames_are_there.Goals as goal
use Rattle.whole_runs_memory.proofs.Plain.{frames_there}

pub returns : goal.returns
returns c = frames_there

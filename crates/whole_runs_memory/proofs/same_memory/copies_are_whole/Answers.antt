use Rattle.whole_runs_memory.proofs.same_memory.copies_are_whole.Goals as goal
use Rattle.whole_runs_memory.proofs.Plain.{copies}

pub returns : goal.returns
returns c = copies

use Rattle.whole_runs_memory.proofs.same_memory.plain_marks_leave_memory_above.Goals as goal
use Rattle.whole_runs_memory.proofs.Plain.{plain_above}

pub returns : goal.returns
returns c = plain_above

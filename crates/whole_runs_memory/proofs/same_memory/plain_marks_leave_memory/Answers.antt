use Rattle.whole_runs_memory.proofs.same_memory.plain_marks_leave_memory.Goals as goal
use Rattle.whole_runs_memory.proofs.Plain.{plain}

pub returns : goal.returns
returns c = plain

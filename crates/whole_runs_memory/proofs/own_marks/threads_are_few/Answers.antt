use Rattle.whole_runs_memory.proofs.own_marks.threads_are_few.Goals as goal
use Rattle.whole_runs_memory.proofs.Threads.{few}

pub returns : goal.returns
returns c = few

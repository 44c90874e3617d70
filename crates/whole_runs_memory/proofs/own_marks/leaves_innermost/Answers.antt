use Rattle.whole_runs_memory.proofs.own_marks.leaves_innermost.Goals as goal
use Rattle.whole_runs_memory.proofs.Ends.{leaves}

pub returns : goal.returns
returns c = leaves

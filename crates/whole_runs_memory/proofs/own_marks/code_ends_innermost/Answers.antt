use Rattle.whole_runs_memory.proofs.own_marks.code_ends_innermost.Goals as goal
use Rattle.whole_runs_memory.proofs.Ends.{ends}

pub returns : goal.returns
returns c = ends

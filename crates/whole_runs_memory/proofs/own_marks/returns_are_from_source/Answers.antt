use Rattle.whole_runs_memory.proofs.own_marks.returns_are_from_source.Goals as goal
use Rattle.whole_runs_memory.proofs.Threads.{from_source}

pub returns : goal.returns
returns c = from_source

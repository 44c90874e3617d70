use Rattle.whole_runs_memory.proofs.below_cut.writes_are_pieces.Goals as goal
use Rattle.whole_runs_memory.proofs.Steps.{writes}

pub returns : goal.returns
returns c = writes

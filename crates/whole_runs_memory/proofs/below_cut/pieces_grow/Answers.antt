use Rattle.whole_runs_memory.proofs.below_cut.pieces_grow.Goals as goal
use Rattle.whole_runs_memory.proofs.Steps.{grow}

pub returns : goal.returns
returns c = grow

use Rattle.whole_runs_memory.proofs.refused.pieces_to_nowhere_pass.Goals as goal
use Rattle.whole_runs_memory.proofs.Refusals.{nowhere}

pub returns : goal.returns
returns c = nowhere

use Rattle.whole_runs_memory.proofs.refused.long_pieces_are_found.Goals as goal
use Rattle.whole_runs_memory.proofs.Refusals.{long_pieces}

pub returns : goal.returns
returns c = long_pieces

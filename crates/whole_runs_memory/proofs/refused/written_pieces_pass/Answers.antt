use Rattle.whole_runs_memory.proofs.refused.written_pieces_pass.Goals as goal
use Rattle.whole_runs_memory.proofs.Refusals.{written_pieces}

pub returns : goal.returns
returns c = written_pieces

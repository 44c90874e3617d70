use Rattle.whole_runs_memory.proofs.refused.refused_pieces_are_found.Goals as goal
use Rattle.whole_runs_memory.proofs.Refusals.{refused_pieces}

pub returns : goal.returns
returns c = refused_pieces

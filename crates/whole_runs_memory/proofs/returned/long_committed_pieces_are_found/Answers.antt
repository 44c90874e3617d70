use Rattle.whole_runs_memory.proofs.returned.long_committed_pieces_are_found.Goals as goal
use Rattle.whole_runs_memory.proofs.Walk.{long_committed}

pub returns : goal.returns
returns c = long_committed

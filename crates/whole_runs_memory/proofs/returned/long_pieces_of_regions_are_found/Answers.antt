use Rattle.whole_runs_memory.proofs.returned.long_pieces_of_regions_are_found.Goals as goal
use Rattle.whole_runs_memory.proofs.Walk.{long_outs}

pub returns : goal.returns
returns c = long_outs

use Rattle.whole_runs_memory.proofs.above_cut.stores_above_are_whole.Goals as goal
use Rattle.whole_runs_memory.proofs.Above.{stores}

pub returns : goal.returns
returns c = stores

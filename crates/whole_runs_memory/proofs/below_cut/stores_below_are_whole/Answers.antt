use Rattle.whole_runs_memory.proofs.below_cut.stores_below_are_whole.Goals as goal
use Rattle.whole_runs_memory.proofs.Below.{stores}

pub returns : goal.returns
returns c = stores

use Rattle.whole_runs_memory.proofs.returned.regions_may_be_touched.Goals as goal
use Rattle.whole_runs_memory.proofs.Long.{may_touch}

pub returns : goal.returns
returns c = may_touch

use Rattle.whole_runs_memory.proofs.refused.missing_regions_are_found.Goals as goal
use Rattle.whole_runs_memory.proofs.Refusals.{missing_regions}

pub returns : goal.returns
returns c = missing_regions

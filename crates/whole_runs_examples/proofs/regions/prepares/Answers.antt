use Rattle.whole_runs_examples.proofs.regions.prepares.Goals as goal
use Rattle.whole_runs_examples.proofs.RegionScenes.{prepares_key, prepares_empty, prepares_bytes}

pub returns-clause-key : goal.returns-clause-key
returns-clause-key c = prepares_key

pub returns-clause-empty : goal.returns-clause-empty
returns-clause-empty c = prepares_empty

pub returns-clause-bytes : goal.returns-clause-bytes
returns-clause-bytes c = prepares_bytes

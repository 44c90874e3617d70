use Rattle.whole_runs_examples.proofs.regions.names_the_first.Goals as goal
use Rattle.whole_runs_examples.proofs.RegionScenes.{names_the_first_first, names_the_first_second}

pub returns-clause-first : goal.returns-clause-first
returns-clause-first c = names_the_first_first

pub returns-clause-second : goal.returns-clause-second
returns-clause-second c = names_the_first_second

use Rattle.whole_runs_examples.proofs.regions.prepares_below.Goals as goal
use Rattle.whole_runs_examples.proofs.RegionScenes.{prepares_below_run, prepares_below_first, prepares_below_last}

pub returns-clause-run : goal.returns-clause-run
returns-clause-run c = prepares_below_run

pub returns-clause-first : goal.returns-clause-first
returns-clause-first c = prepares_below_first

pub returns-clause-last : goal.returns-clause-last
returns-clause-last c = prepares_below_last

use Rattle.whole_runs_examples.proofs.regions.receives.Goals as goal
use Rattle.whole_runs_examples.proofs.RegionScenes.{receives_run, receives_too_large, receives_none, receives_whole_region}

pub returns-clause-run : goal.returns-clause-run
returns-clause-run c = receives_run

pub returns-clause-too_large : goal.returns-clause-too_large
returns-clause-too_large c = receives_too_large

pub returns-clause-none : goal.returns-clause-none
returns-clause-none c = receives_none

pub returns-clause-whole_region : goal.returns-clause-whole_region
returns-clause-whole_region c = receives_whole_region

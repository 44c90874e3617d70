use Rattle.whole_runs_examples.proofs.regions.commits_below.Goals as goal
use Rattle.whole_runs_examples.proofs.RegionScenes.{commits_below_run, commits_below_changed}

pub returns-clause-run : goal.returns-clause-run
returns-clause-run c = commits_below_run

pub returns-clause-changed : goal.returns-clause-changed
returns-clause-changed c = commits_below_changed

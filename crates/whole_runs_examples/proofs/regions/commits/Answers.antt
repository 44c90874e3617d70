use Rattle.whole_runs_examples.proofs.regions.commits.Goals as goal
use Rattle.whole_runs_examples.proofs.RegionScenes.{commits_run, commits_unwritten, commits_committed, commits_no_key}

pub returns-clause-run : goal.returns-clause-run
returns-clause-run c = commits_run

pub returns-clause-unwritten : goal.returns-clause-unwritten
returns-clause-unwritten c = commits_unwritten

pub returns-clause-committed : goal.returns-clause-committed
returns-clause-committed c = commits_committed

pub returns-clause-no_key : goal.returns-clause-no_key
returns-clause-no_key c = commits_no_key

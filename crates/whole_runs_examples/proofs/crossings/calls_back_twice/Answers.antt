use Rattle.whole_runs_examples.proofs.crossings.calls_back_twice.Goals as goal
use Rattle.whole_runs_examples.proofs.CrossingScenes.{calls_back_twice_run, calls_back_twice_keys, calls_back_twice_keyless}

pub returns-clause-run : goal.returns-clause-run
returns-clause-run c = calls_back_twice_run

pub returns-clause-keys : goal.returns-clause-keys
returns-clause-keys c = calls_back_twice_keys

pub returns-clause-keyless : goal.returns-clause-keyless
returns-clause-keyless c = calls_back_twice_keyless

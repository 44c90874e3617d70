use Rattle.whole_runs_examples.proofs.crossings.spawns_below.Goals as goal
use Rattle.whole_runs_examples.proofs.CrossingScenes.{spawns_below_run, spawns_below_no_events}

pub returns-clause-run : goal.returns-clause-run
returns-clause-run c = spawns_below_run

pub returns-clause-no_events : goal.returns-clause-no_events
returns-clause-no_events c = spawns_below_no_events

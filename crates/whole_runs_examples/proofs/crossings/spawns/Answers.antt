use Rattle.whole_runs_examples.proofs.crossings.spawns.Goals as goal
use Rattle.whole_runs_examples.proofs.CrossingScenes.{spawns_wrong, spawns_null}

pub returns-clause-wrong : goal.returns-clause-wrong
returns-clause-wrong c = spawns_wrong

pub returns-clause-null : goal.returns-clause-null
returns-clause-null c = spawns_null

use Rattle.whole_runs_examples.proofs.crossings.frees.Goals as goal
use Rattle.whole_runs_examples.proofs.CrossingScenes.{frees_fault}

pub returns : goal.returns
returns c = frees_fault

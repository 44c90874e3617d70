use Rattle.whole_runs_examples.proofs.crossings.races_with_a_free.Goals as goal
use Rattle.whole_runs_examples.proofs.CrossingScenes.{races_with_a_free_race}

pub returns : goal.returns
returns c = races_with_a_free_race

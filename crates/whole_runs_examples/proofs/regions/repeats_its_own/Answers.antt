use Rattle.whole_runs_examples.proofs.regions.repeats_its_own.Goals as goal
use Rattle.whole_runs_examples.proofs.RegionScenes.{repeats_its_own_run, repeats_its_own_other, repeats_its_own_again}

pub returns-clause-run : goal.returns-clause-run
returns-clause-run c = repeats_its_own_run

pub returns-clause-other : goal.returns-clause-other
returns-clause-other c = repeats_its_own_other

pub returns-clause-again : goal.returns-clause-again
returns-clause-again c = repeats_its_own_again

use Rattle.whole_runs_examples.proofs.regions.restores.Goals as goal
use Rattle.whole_runs_examples.proofs.RegionScenes.{restores_run, restores_poked, restores_restored, restores_unseen}

pub returns-clause-run : goal.returns-clause-run
returns-clause-run c = restores_run

pub returns-clause-poked : goal.returns-clause-poked
returns-clause-poked c = restores_poked

pub returns-clause-restored : goal.returns-clause-restored
returns-clause-restored c = restores_restored

pub returns-clause-unseen : goal.returns-clause-unseen
returns-clause-unseen c = restores_unseen

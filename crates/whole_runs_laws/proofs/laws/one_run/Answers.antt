use Rattle.whole_runs_laws.proofs.laws.one_run.Goals as goal
use Rattle.whole_runs_laws.proofs.OneStep.{steps_determined}
use Rattle.whole_runs_laws.proofs.OneFault.{faults_determined}
use Rattle.whole_runs_laws.proofs.Runs.{one_run}

pub returns : goal.returns
returns c = λ w. one_run w (steps_determined w) (faults_determined w)

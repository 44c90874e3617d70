use Rattle.whole_runs_laws.proofs.laws.faults_are_determined.Goals as goal
use Rattle.whole_runs_laws.proofs.OneFault.{faults_determined}

pub returns : goal.returns
returns c = faults_determined

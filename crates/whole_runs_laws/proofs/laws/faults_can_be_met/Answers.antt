use Rattle.whole_runs_laws.proofs.laws.faults_can_be_met.Goals as goal
use Rattle.whole_runs_laws.proofs.FaultsAbove.{faults_met}

pub returns : goal.returns
returns c = faults_met

use Rattle.whole_runs_laws.proofs.laws.faults_below_can_be_met.Goals as goal
use Rattle.whole_runs_laws.proofs.FaultsBelow.{faults_below}

pub returns : goal.returns
returns c = faults_below

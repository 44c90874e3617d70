use Rattle.whole_runs_laws.proofs.FaultsAbove.{faults_met}
use Rattle.whole_runs_seen.proofs.laws.faults_of_runs_can_be_met.Goals as goal
use Rattle.whole_runs_seen.proofs.Ends.{ends_there}

pub returns : goal.returns
returns c = λ w fit. faults_met w fit.file (ends_there w fit)

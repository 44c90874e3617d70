use Rattle.recorder_threads.proofs.Faults.{faults_leave_all}
use Rattle.recorder_threads.proofs.laws.faults_leave_threads.Goals as goal

pub returns : goal.returns
returns c = faults_leave_all

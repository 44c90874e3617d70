use Rattle.replay_runs.proofs.checks.found_faults_are_marks.Goals as goal
use Rattle.replay_runs.proofs.Faults.{come}

pub returns : goal.returns
returns c = come

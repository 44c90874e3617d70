use Rattle.whole_runs_laws.proofs.laws.steps_make_a_run.Goals as goal
use Rattle.whole_runs_laws.proofs.Existing.{steps_make_a_run}

pub returns : goal.returns
returns c = steps_make_a_run

use Rattle.whole_runs_threads.proofs.Own.{beginnings}
use Rattle.whole_runs_threads.proofs.laws.beginnings_stay.Goals as goal

pub returns : goal.returns
returns c = beginnings

use Rattle.whole_runs_threads.proofs.Own.{start_none}
use Rattle.whole_runs_threads.proofs.laws.other_marks_start_none.Goals as goal

pub returns : goal.returns
returns c = start_none

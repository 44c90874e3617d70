use Rattle.whole_runs_threads.proofs.Own.{other_marks}
use Rattle.whole_runs_threads.proofs.laws.other_marks_stay.Goals as goal

pub returns : goal.returns
returns c = other_marks

use Rattle.whole_runs_seen.proofs.laws.suited_answers_leave_none.Goals as goal
use Rattle.whole_runs_seen.proofs.Left.{leave_none}

pub returns : goal.returns
returns c = leave_none

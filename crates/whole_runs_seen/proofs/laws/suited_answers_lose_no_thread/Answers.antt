use Rattle.whole_runs_seen.proofs.laws.suited_answers_lose_no_thread.Goals as goal
use Rattle.whole_runs_seen.proofs.Here.{lose_none}

pub returns : goal.returns
returns c = lose_none

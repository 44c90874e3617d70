use Rattle.whole_runs_seen.proofs.laws.suited_threads_end_or_stand.Goals as goal
use Rattle.whole_runs_seen.proofs.Lasting.{end_or_stand}

pub returns : goal.returns
returns c = end_or_stand

use Rattle.whole_runs_examples.proofs.locks.is_cut_short.Goals as goal
use Rattle.whole_runs_examples.proofs.LockScenes.{is_cut_short_cut}

pub returns : goal.returns
returns c = is_cut_short_cut

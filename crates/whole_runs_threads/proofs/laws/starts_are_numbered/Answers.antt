use Rattle.whole_runs_threads.proofs.Own.{start_numbered}
use Rattle.whole_runs_threads.proofs.laws.starts_are_numbered.Goals as goal

pub returns : goal.returns
returns c = start_numbered

use Rattle.whole_runs_examples.proofs.locks.adds.Goals as goal
use Rattle.whole_runs_examples.proofs.LockScenes.{adds_run, adds_first, adds_second, adds_third, adds_bytes}

pub returns-clause-run : goal.returns-clause-run
returns-clause-run c = adds_run

pub returns-clause-first : goal.returns-clause-first
returns-clause-first c = adds_first

pub returns-clause-second : goal.returns-clause-second
returns-clause-second c = adds_second

pub returns-clause-third : goal.returns-clause-third
returns-clause-third c = adds_third

pub returns-clause-bytes : goal.returns-clause-bytes
returns-clause-bytes c = adds_bytes

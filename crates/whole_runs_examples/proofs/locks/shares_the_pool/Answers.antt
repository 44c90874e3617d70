use Rattle.whole_runs_examples.proofs.locks.shares_the_pool.Goals as goal
use Rattle.whole_runs_examples.proofs.LockScenes.{shares_the_pool_run, shares_the_pool_clocks, shares_the_pool_refused}

pub returns-clause-run : goal.returns-clause-run
returns-clause-run c = shares_the_pool_run

pub returns-clause-clocks : goal.returns-clause-clocks
returns-clause-clocks c = shares_the_pool_clocks

pub returns-clause-refused : goal.returns-clause-refused
returns-clause-refused c = shares_the_pool_refused

use Rattle.whole_runs_examples.proofs.sums.halts.Goals as goal
use Rattle.whole_runs_examples.proofs.SumScenes.{halts_budget, halts_stop, halts_done}

pub returns-clause-budget : goal.returns-clause-budget
returns-clause-budget c = halts_budget

pub returns-clause-stop : goal.returns-clause-stop
returns-clause-stop c = halts_stop

pub returns-clause-done : goal.returns-clause-done
returns-clause-done c = halts_done

use Rattle.whole_runs_examples.proofs.sums.divides.Goals as goal
use Rattle.whole_runs_examples.proofs.SumScenes.{divides_fault, divides_stop, divides_budget, divides_below, divides_no_stop}

pub returns-clause-fault : goal.returns-clause-fault
returns-clause-fault c = divides_fault

pub returns-clause-stop : goal.returns-clause-stop
returns-clause-stop c = divides_stop

pub returns-clause-budget : goal.returns-clause-budget
returns-clause-budget c = divides_budget

pub returns-clause-below : goal.returns-clause-below
returns-clause-below c = divides_below

pub returns-clause-no_stop : goal.returns-clause-no_stop
returns-clause-no_stop c = divides_no_stop

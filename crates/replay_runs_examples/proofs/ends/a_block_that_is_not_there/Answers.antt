use Rattle.replay_runs_examples.proofs.ends.a_block_that_is_not_there.Goals as goal
use Rattle.replay_runs_examples.proofs.Absent.{taken_holds, block_found, no_block_fault}

pub returns-clause-before : goal.returns-clause-before
returns-clause-before c = taken_holds

pub returns-clause-found : goal.returns-clause-found
returns-clause-found c = block_found

pub returns-clause-no_fault : goal.returns-clause-no_fault
returns-clause-no_fault c = no_block_fault

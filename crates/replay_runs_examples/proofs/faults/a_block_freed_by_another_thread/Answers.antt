use Rattle.replay_runs_examples.proofs.faults.a_block_freed_by_another_thread.Goals as goal
use Rattle.replay_runs_examples.proofs.Examples.{freed_holds, freed_unjoined}

pub returns-clause-disciplined : goal.returns-clause-disciplined
returns-clause-disciplined c = freed_holds

pub returns-clause-key_left_out : goal.returns-clause-key_left_out
returns-clause-key_left_out c = freed_unjoined

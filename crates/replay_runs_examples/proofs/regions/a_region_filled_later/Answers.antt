use Rattle.replay_runs_examples.proofs.regions.a_region_filled_later.Goals as goal
use Rattle.replay_runs_examples.proofs.Examples.{later_holds, later_unjoined}

pub returns-clause-disciplined : goal.returns-clause-disciplined
returns-clause-disciplined c = later_holds

pub returns-clause-key_left_out : goal.returns-clause-key_left_out
returns-clause-key_left_out c = later_unjoined

use Rattle.replay_runs_examples.proofs.unknown.a_frame_that_is_left_in_part.Goals as goal
use Rattle.replay_runs_examples.proofs.Surprised.{shared_holds, part_races}

pub returns-clause-before : goal.returns-clause-before
returns-clause-before c = shared_holds

pub returns-clause-races : goal.returns-clause-races
returns-clause-races c = part_races

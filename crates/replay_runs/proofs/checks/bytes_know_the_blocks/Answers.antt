use Rattle.replay_runs.proofs.checks.bytes_know_the_blocks.Goals as goal
use Rattle.replay_runs.proofs.Blocks.{agree}

pub returns : goal.returns
returns c = agree

use Rattle.space_memory_laws.proofs.laws.like_runs_go_on_alike.Goals as goal
use Rattle.space_memory_laws.proofs.Checkpoints.{goes_on}

pub returns : goal.returns
returns c = goes_on

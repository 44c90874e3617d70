use Rattle.space_memory_laws.proofs.laws.like_runs_share_memory.Goals as goal
use Rattle.space_memory_laws.proofs.Checkpoints.{shared}

pub returns : goal.returns
returns c = shared

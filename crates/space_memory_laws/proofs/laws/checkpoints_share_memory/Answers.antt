use Rattle.space_memory_laws.proofs.laws.checkpoints_share_memory.Goals as goal
use Rattle.space_memory_laws.proofs.Checkpoints.{checkpoints}

pub returns : goal.returns
returns c = checkpoints

use Rattle.space_memory_laws.proofs.laws.rearranged_runs_share_memory.Goals as goal
use Rattle.space_memory_laws.proofs.Rearranged.{shared}

pub returns : goal.returns
returns c = shared

use Rattle.space_memory_laws.proofs.laws.frames_below_are_unseen.Goals as goal
use Rattle.space_memory_laws.proofs.Below.{entered}

pub returns : goal.returns
returns c = entered

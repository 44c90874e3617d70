use Rattle.space_memory_laws.proofs.laws.full_stacks_are_found.Goals as goal
use Rattle.space_memory_laws.proofs.Rooms.{full_stacks}

pub returns : goal.returns
returns c = full_stacks

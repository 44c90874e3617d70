use Rattle.space_memory_laws.proofs.laws.new_memory_stands_for_the_start.Goals as goal
use Rattle.space_memory_laws.proofs.Fresh.{stands}

pub returns : goal.returns
returns c = stands

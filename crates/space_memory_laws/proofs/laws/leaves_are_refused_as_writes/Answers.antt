use Rattle.space_memory_laws.proofs.laws.leaves_are_refused_as_writes.Goals as goal
use Rattle.space_memory_laws.proofs.Rooms.{leaves_as_writes}

pub returns : goal.returns
returns c = leaves_as_writes

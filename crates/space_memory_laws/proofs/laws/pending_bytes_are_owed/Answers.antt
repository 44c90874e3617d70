use Rattle.space_memory_laws.proofs.laws.pending_bytes_are_owed.Goals as goal
use Rattle.space_memory_laws.proofs.Owed.{owed}

pub returns : goal.returns
returns c s past memory h x own = owed s past memory h x own

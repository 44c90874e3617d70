use Rattle.space_memory_laws.proofs.laws.prepared_ranges_are_parts.Goals as goal
use Rattle.space_memory_laws.proofs.Parts.{prepared_range}

pub returns : goal.returns
returns c s past base old new t k parts given r h below same adds rest ok free = prepared_range s past base old new t parts given r h below same rest k adds ok free

use Rattle.space_memory_laws.proofs.laws.held_ranges_are_parts.Goals as goal
use Rattle.space_memory_laws.proofs.Parts.{held_range}

pub returns : goal.returns
returns c s past base old new t parts given r write h below same adds rest ok = held_range s past base old new t parts given r h below same rest write adds ok

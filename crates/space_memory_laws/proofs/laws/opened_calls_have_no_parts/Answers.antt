use Rattle.space_memory_laws.proofs.laws.opened_calls_have_no_parts.Goals as goal
use Rattle.space_memory_laws.proofs.Parts.{opened}

pub returns : goal.returns
returns c = opened

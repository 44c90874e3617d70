use Rattle.space_memory_laws.proofs.laws.undone_calls_leave_memory.Goals as goal
use Rattle.space_memory_laws.proofs.Parts.{undone}

pub returns : goal.returns
returns c = undone

use Rattle.space_memory_laws.proofs.laws.loads_are_marks.Goals as goal
use Rattle.space_memory_laws.proofs.Access.{loads}

pub returns : goal.returns
returns c = loads

use Rattle.space_memory_laws.proofs.laws.leaves_are_marks.Goals as goal
use Rattle.space_memory_laws.proofs.Frames.{leaves}

pub returns : goal.returns
returns c = leaves

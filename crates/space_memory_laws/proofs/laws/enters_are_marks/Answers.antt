use Rattle.space_memory_laws.proofs.laws.enters_are_marks.Goals as goal
use Rattle.space_memory_laws.proofs.Frames.{enters}

pub returns : goal.returns
returns c = enters

use Rattle.marks.proofs.laws.unwritten_bytes_stay.Goals as goal
use Rattle.marks.proofs.Touched.{keeps}

pub returns : goal.returns
returns c = keeps

use Rattle.marks.proofs.laws.only_touched_bytes_count.Goals as goal
use Rattle.marks.proofs.Touched.{asks_agree}

pub returns : goal.returns
returns c = asks_agree

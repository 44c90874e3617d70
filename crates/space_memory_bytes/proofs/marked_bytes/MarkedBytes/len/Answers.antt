use Rattle.space_memory_bytes.proofs.Marks.{length_is}
use Rattle.space_memory_bytes.proofs.marked_bytes.MarkedBytes.len.Goals as goal

pub returns : goal.returns
returns c = length_is _ _ _ c.self.invariant.0 _ c.self.view_is

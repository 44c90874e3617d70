use Rattle.std.proofs.Common.{ap, ◌∙◌}
use Rattle.marks.specs.Bytes.{Byte}
use Rattle.reference_recorder_marks.specs.Marks.{past}
use Rattle.reference_recorder_ranges.proofs.BlocksAbove.{block_same}
use Rattle.reference_recorder_ranges.proofs.blocks.block_size.Goals as goal

pub returns : goal.returns
returns c = λ w p h. ap (λ (b : Byte). b.block) (c.byte.ensures w h.is.placed) ∙ block_same w p (past c.args.run.marks.now) c.args.addr h.is.same

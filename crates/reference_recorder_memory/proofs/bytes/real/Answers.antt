use Rattle.std.proofs.Common.{ap, sym, ◌∙◌}
use Rattle.space_memory_laws.specs.Starts.{placed_byte}
use Rattle.replay_runs.specs.Runs.{byte}
use Rattle.whole_runs.specs.World.{begin}
use Rattle.whole_runs.specs.Sides.{seen}
use Rattle.whole_runs.specs.Memory.{real}
use Rattle.reference_recorder_marks.proofs.Past.{folded, folds}
use Rattle.reference_recorder_memory.specs.Cells.{byte_step}
use Rattle.reference_recorder_memory.proofs.OneByte.{byte_more, placed_same, real_more}
use Rattle.reference_recorder_memory.proofs.bytes.real.Goals as goal

pub loop-mark-init : goal.loop-mark-init
loop-mark-init c = λ w e. (c.first_byte-byte.ensures ∙ ap (λ q. placed_byte q c.args.addr) (sym e), c.placed_at-value.ensures ∙ placed_same w c.args.placed.now c.args.addr e)

pub loop-mark-preserved : goal.loop-mark-preserved
loop-mark-preserved c = λ w e.
    let h = c.loop-mark.invariant w e in
    let here = folds (λ p. byte (begin w) c.args.addr (seen p)) (byte_step c.args.addr) (byte_more w c.args.addr) c.args.marks.now c.loop-mark.mark-index c.mark-item.result c.loop-mark-test.true c.mark-item.is _ _ h.0 c.byte_after-byte.ensures in
    (here, real_more w c.args.addr c.args.marks.now c.loop-mark.mark-index c.mark-item.result c.loop-mark-test.true c.mark-item.is _ here _ h.1 _ c.left_at-value.ensures)

pub returns : goal.returns
returns c = λ w e. folded (λ p. real w p c.args.addr) c.args.marks.now c.loop-mark.mark-index c.loop-mark-test.false _ (c.loop-mark.invariant w e).1

use Rattle.recorder_book.proofs.Parts.{part_is_chunk}
use Rattle.reference_recorder_log.proofs.chunks.put_last.Goals as goal

pub put_chunk-requires : goal.put_chunk-requires
put_chunk-requires c = part_is_chunk c.args.thread c.args.records.now c.args.count c.requires.chunk

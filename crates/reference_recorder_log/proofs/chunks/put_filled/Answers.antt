use Rattle.std.proofs.Common.{◌-◌, ◌≤◌, length, arith}
use Rattle.recorder_book.proofs.Lengths.{one_chunk_at_least}
use Rattle.recorder_book.proofs.Parts.{last_is_chunk, thread_small}
use Rattle.reference_recorder_log.proofs.chunks.put_filled.Goals as goal

pub put_last-requires : goal.put_last-requires
put_last-requires c =
    let rs = c.args.records.now in
    let few : c.args.chunk ≤ length rs = one_chunk_at_least (length rs) c.args.chunk (length rs - 1) (omega (arith, c.requires.some)) c.if-records-chunk-ne0.false in
    record { count = few; chunk = last_is_chunk c.args.thread rs c.requires.records c.args.chunk (thread_small c.args.thread rs c.requires.records c.requires.some) c.requires.chunk few (omega (arith, c.ranges.chunk.fits)) }

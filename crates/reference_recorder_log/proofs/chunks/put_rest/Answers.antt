use Rattle.std.proofs.Common.{◌%◌, ◌≤◌, ◌<◌, length, arith}
use Rattle.std.proofs.Math.Nat.{mod-le}
use Rattle.std.proofs.lemmas.Nat.{mod_below}
use Rattle.recorder_book.proofs.Parts.{last_is_chunk, thread_small}
use Rattle.reference_recorder_log.proofs.chunks.put_rest.Goals as goal

pub put_last-requires : goal.put_last-requires
put_last-requires c =
    let rs = c.args.records.now in
    let le : length rs % c.args.chunk ≤ length rs = mod-le (length rs) c.args.chunk in
    let below : length rs % c.args.chunk < c.args.chunk = mod_below (length rs) c.args.chunk (omega (arith, c.requires.chunk)) in
    let some : 1 ≤ length rs % c.args.chunk = omega (arith, c.if-kept-eq0.false) in
    record {
      count = le;
      chunk =
          last_is_chunk c.args.thread rs c.requires.records (length rs % c.args.chunk) (thread_small c.args.thread rs c.requires.records (omega (arith, le, some))) some le (omega (arith, below, c.ranges.chunk.fits));
    }

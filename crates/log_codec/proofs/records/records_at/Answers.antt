use Rattle.std.proofs.Common.{◌++◌}
use Rattle.std.proofs.lemmas.Result.{err_from_is_err_and}
use Rattle.byte_format.specs.Reading.{list_at, read_list, with_prefix}
use Rattle.byte_format.specs.Numbers.{fixed}
use Rattle.log_codec.specs.Reading.{record_at}
use Rattle.byte_format.proofs.Loops.{goes_on, is_done, reads_more, ends_after}
use Rattle.log_codec.proofs.records.records_at.Goals as goal

pub returns-in_err-record : goal.returns-in_err-record
returns-in_err-record c =
    let item = record_at fixed c.args.thread in
    let p = err_from_is_err_and c.from_residual.result c.from_residual.ensures.1 in
    rw (p.1, p.2) (ends_after c.in_err-record.field-0.0 item c.args.records.now.items c.loop.records.items c.args.count c.loop.counter c.loop.rest.now (list_at item c.args.count c.args.bytes.now) (read_list item c.args.count c.args.bytes.now) c.loop-test.true c.in_err-record.ensures c.loop.invariant.reading c.loop.invariant.read)

pub loop-preserved : goal.loop-preserved
loop-preserved c =
    let item = record_at fixed c.args.thread in
    record {
      reading = rw c.in_ok-push.ensures.items (goes_on item c.loop.records.items c.args.count c.loop.counter c.loop.rest.now c.in_ok-record.record c.in_ok-record.after.now (with_prefix c.args.records.now.items (list_at item c.args.count c.args.bytes.now)) c.loop-test.true c.in_ok-record.ensures c.loop.invariant.reading);
      read = rw c.in_ok-push.ensures.items (reads_more item c.loop.records.items c.args.count c.loop.counter c.loop.rest.now c.in_ok-record.record c.in_ok-record.after.now (c.args.records.now.items ++ read_list item c.args.count c.args.bytes.now) c.loop-test.true c.in_ok-record.ensures c.loop.invariant.read);
    }

pub returns : goal.returns
returns c = let item = record_at fixed c.args.thread in is_done item c.loop.records.items c.args.count c.loop.counter c.loop.rest.now (with_prefix c.args.records.now.items (list_at item c.args.count c.args.bytes.now)) c.loop-test.false c.loop.invariant.reading

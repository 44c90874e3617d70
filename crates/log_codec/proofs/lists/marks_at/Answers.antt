use Rattle.std.proofs.lemmas.Result.{err_from_is_err_and}
use Rattle.byte_format.specs.Reading.{list_at}
use Rattle.byte_format.specs.Numbers.{fixed}
use Rattle.log_codec.specs.Reading.{key_at}
use Rattle.byte_format.proofs.Loops.{goes_on, ends, is_done}
use Rattle.log_codec.proofs.lists.marks_at.Goals as goal

pub returns-in_err-mark : goal.returns-in_err-mark
returns-in_err-mark c =
    let p = err_from_is_err_and c.from_residual-in_err-mark.result c.from_residual-in_err-mark.ensures.1 in
    rw (p.1, p.2) (ends c.in_err-mark.field-0.0 (key_at fixed) c.loop.marks.items c.args.count c.loop.counter c.loop.rest.now (list_at (key_at fixed) c.args.count c.args.bytes.now) c.loop-test.true c.in_err-mark.ensures c.loop.invariant)

pub loop-preserved : goal.loop-preserved
loop-preserved c =
    rw c.in_ok-push.ensures.items (goes_on (key_at fixed) c.loop.marks.items c.args.count c.loop.counter c.loop.rest.now c.in_ok-mark.mark c.in_ok-mark.after.now (list_at (key_at fixed) c.args.count c.args.bytes.now) c.loop-test.true c.in_ok-mark.ensures c.loop.invariant)

pub returns : goal.returns
returns c = is_done (key_at fixed) c.loop.marks.items c.args.count c.loop.counter c.loop.rest.now (list_at (key_at fixed) c.args.count c.args.bytes.now) c.loop-test.false c.loop.invariant

use Rattle.std.proofs.lemmas.Result.{err_from_is_err_and}
use Rattle.byte_format.specs.Reading.{literal_at}
use Rattle.byte_format.proofs.Loops.{literal_goes_on, literal_ends, literal_done}
use Rattle.byte_format.proofs.bytes.literal_at.Goals as goal

pub returns-in_err-rest : goal.returns-in_err-rest
returns-in_err-rest c =
    let p = err_from_is_err_and c.from_residual.result c.from_residual.ensures.1 in
    rw (p.1, p.2) (literal_ends c.in_err-rest.field-0.0 c.args.expected.now c.loop-byte.byte-index c.loop-byte.rest.now (literal_at c.args.expected.now c.args.bytes.now) c.loop-byte-test.true c.in_err-rest.ensures c.loop-byte.invariant)

pub loop-byte-preserved : goal.loop-byte-preserved
loop-byte-preserved c = literal_goes_on c.args.expected.now c.loop-byte.byte-index c.loop-byte.rest.now _ _ (literal_at c.args.expected.now c.args.bytes.now) c.loop-byte-test.true c.in_ok-rest.ensures c.loop-byte.invariant

pub returns : goal.returns
returns c = literal_done c.args.expected.now c.loop-byte.byte-index c.loop-byte.rest.now (literal_at c.args.expected.now c.args.bytes.now) c.loop-byte-test.false c.loop-byte.invariant

use Rattle.std.proofs.lemmas.Result.{err_from_is_err_and}
use Rattle.byte_format.specs.Reading.{list_at}
use Rattle.byte_format.specs.Numbers.{fixed}
use Rattle.log_codec.specs.Reading.{piece_at}
use Rattle.byte_format.proofs.Loops.{goes_on, ends, is_done}
use Rattle.log_codec.proofs.lists.pieces_at.Goals as goal

pub returns-in_err-piece : goal.returns-in_err-piece
returns-in_err-piece c =
    let p = err_from_is_err_and c.from_residual-in_err-piece.result c.from_residual-in_err-piece.ensures.1 in
    rw (p.1, p.2) (ends c.in_err-piece.field-0.0 (piece_at fixed) c.loop.pieces.items c.args.count c.loop.counter c.loop.rest.now (list_at (piece_at fixed) c.args.count c.args.bytes.now) c.loop-test.true c.in_err-piece.ensures c.loop.invariant)

pub loop-preserved : goal.loop-preserved
loop-preserved c =
    rw c.in_ok-push.ensures.items (goes_on (piece_at fixed) c.loop.pieces.items c.args.count c.loop.counter c.loop.rest.now c.in_ok-piece.piece c.in_ok-piece.after.now (list_at (piece_at fixed) c.args.count c.args.bytes.now) c.loop-test.true c.in_ok-piece.ensures c.loop.invariant)

pub returns : goal.returns
returns c = is_done (piece_at fixed) c.loop.pieces.items c.args.count c.loop.counter c.loop.rest.now (list_at (piece_at fixed) c.args.count c.args.bytes.now) c.loop-test.false c.loop.invariant

use Rattle.std.proofs.Common.{◌≤◌, ◌++◌, length, ap, ◌∙◌, arith}
use Rattle.std.proofs.lemmas.List.{take_all}
use Rattle.marks.specs.Ranges.{piece_bytes}
use Rattle.reference_recorder_records.proofs.Copied.{copied_more, copied_none}
use Rattle.reference_recorder_records.proofs.copies.add_pieces.Goals as goal

pub loop-piece-init : goal.loop-piece-init
loop-piece-init c = copied_none c.args.to.now.items

pub loop-piece-preserved : goal.loop-piece-preserved
loop-piece-preserved c = copied_more c.args.pieces.now c.loop-piece.piece-index c.piece-item.result c.loop-piece-test.true c.piece-item.is c.args.to.now.items c.loop-piece.to.items _ _ c.in_ok-copy.ensures c.in_ok-push.ensures.items c.loop-piece.invariant

pub returns : goal.returns
returns c = let le : length c.args.pieces.now ≤ c.loop-piece.piece-index = omega arith in c.loop-piece.invariant ∙ ap (λ ps. c.args.to.now.items ++ piece_bytes ps) (take_all c.loop-piece.piece-index c.args.pieces.now le)

use Rattle.std.proofs.Common.{◌++◌, sym, ap, ◌∙◌}
use Rattle.std.proofs.lemmas.List.{append-nil, take_all}
use Rattle.replay_runs.specs.Records.{pieces_in_a_row}
use Rattle.reference_recorder_log.proofs.Printed.{row_more}
use Rattle.reference_recorder_log.proofs.output.add_pieces.Goals as goal

pub loop-piece-init : goal.loop-piece-init
loop-piece-init c = sym (append-nil c.args.to.now.items)

pub loop-piece-preserved : goal.loop-piece-preserved
loop-piece-preserved c = row_more c.args.pieces.now c.loop-piece.piece-index c.piece-item.result c.loop-piece-test.true c.piece-item.is c.args.to.now.items c.loop-piece.to.items c.add_piece.new.to.items c.in_ok-add_piece.ensures c.loop-piece.invariant

pub returns : goal.returns
returns c = c.loop-piece.invariant ∙ ap (λ ps. c.args.to.now.items ++ pieces_in_a_row ps) (take_all c.loop-piece.piece-index c.args.pieces.now c.loop-piece-test.false)

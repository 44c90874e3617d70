use Rattle.std.proofs.Common.{◌||◌, ap, sym, ◌∙◌}
use Rattle.marks.specs.Marks.{released}
use Rattle.marks.specs.Ranges.{any_piece}
use Rattle.reference_recorder_marks.specs.Marks.{commit_of}
use Rattle.reference_recorder_marks.proofs.Pieces.{any_piece_append}
use Rattle.reference_recorder_marks.proofs.bytes.is_brought.Goals as goal

pub returns-then-in_outs : goal.returns-then-in_outs
returns-then-in_outs c =
    c.if-in_outs.true ∙ ap (λ b. b || any_piece (released (commit_of c.args.commit.now)) c.args.addr) (sym c.if-in_outs.true ∙ c.any_piece-in_outs.ensures)
    ∙ sym (any_piece_append c.args.outs.now (released (commit_of c.args.commit.now)) c.args.addr)

pub returns-else-in_outs : goal.returns-else-in_outs
returns-else-in_outs c =
    c.is_released.ensures
    ∙ ap (λ b. b || any_piece (released (commit_of c.args.commit.now)) c.args.addr) (sym c.if-in_outs.false ∙ c.any_piece-in_outs.ensures)
    ∙ sym (any_piece_append c.args.outs.now (released (commit_of c.args.commit.now)) c.args.addr)

use Rattle.std.proofs.Common.{cond, ap, sym, ◌∙◌}
use Rattle.marks.specs.Marks.{released}
use Rattle.marks.specs.Bytes.{give_any}
use Rattle.reference_recorder_marks.specs.Marks.{commit_of}
use Rattle.reference_recorder_marks.proofs.Pieces.{give_any_append}
use Rattle.reference_recorder_memory.specs.Cells.{cell_of}
use Rattle.reference_recorder_memory.proofs.cells.brought.Goals as goal

pub returns-then-in_outs : goal.returns-then-in_outs
returns-then-in_outs c =
    c.give_any.ensures
    ∙ ap (λ b. cond b (give_any c.args.outs.now c.args.addr (cell_of c.args.cell)) (give_any (released (commit_of c.args.commit.now)) c.args.addr (cell_of c.args.cell))) (sym c.if-in_outs.true ∙ c.any_piece-in_outs.ensures)
    ∙ sym (give_any_append c.args.outs.now (released (commit_of c.args.commit.now)) c.args.addr (cell_of c.args.cell))

pub returns-else-in_outs : goal.returns-else-in_outs
returns-else-in_outs c =
    c.give_released.ensures
    ∙ ap (λ b. cond b (give_any c.args.outs.now c.args.addr (cell_of c.args.cell)) (give_any (released (commit_of c.args.commit.now)) c.args.addr (cell_of c.args.cell))) (sym c.if-in_outs.false ∙ c.any_piece-in_outs.ensures)
    ∙ sym (give_any_append c.args.outs.now (released (commit_of c.args.commit.now)) c.args.addr (cell_of c.args.cell))

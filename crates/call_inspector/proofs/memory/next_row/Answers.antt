use Rattle.std.proofs.Common.{ℕ, Option, sym, subst, arith}
use Rattle.call_inspector.specs.Rows.{IsNextRow}
use Rattle.call_inspector.proofs.LiveRows.{row_found, none_found, found_beyond}
use Rattle.call_inspector.proofs.memory.next_row.Goals as goal

pub returns-in_err-row : goal.returns-in_err-row
returns-in_err-row c =
    subst (λ (o : Option ℕ). IsNextRow c.args.memory.now c.args.from o) (sym c.from_residual.ensures)
    (none_found c.args.memory.now c.args.from c.in_err-row.ensures)

pub returns-then-row : goal.returns-then-row
returns-then-row c = row_found c.args.memory.now c.args.from c.in_ok-row.row c.if-row.true c.in_ok-row.ensures

pub returns-else-row : goal.returns-else-row
returns-else-row c = found_beyond c.args.memory.now c.args.from c.in_ok-row.row (omega (arith, c.if-row.false)) c.in_ok-row.ensures

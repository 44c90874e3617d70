use Rattle.std.proofs.Common.{◌≡◌, ℕ, ◌+◌, ◌<◌, length, get_or}
use Rattle.space_memory.specs.declared.cell.Cell.TheVariants.{Dead}
use Rattle.space_memory.specs.Cells.{cell_at}
use Rattle.space_memory.proofs.spaces.Spaces.cells.Given as goal

-- the cells so far are shown
abbrev pub invariant-loop-i : goal.invariant-loop-i
invariant-loop-i l = record {
  len : length l.cells ≡ 16;
  set : (k : ℕ) → k < l.i → get_or l.cells k Dead ≡ cell_at l.self (l.row + k);
}

use Rattle.std.proofs.Common.{◌+◌, arith}
use Rattle.std.proofs.lemmas.List.FromFn.{fill_by_all}
use Rattle.space_memory.specs.declared.cell.Cell.TheVariants.{Dead}
use Rattle.space_memory.specs.Cells.{cell_at}
use Rattle.space_memory.proofs.spaces.Spaces.cells.Goals as goal

pub returns : goal.returns
returns c = fill_by_all (λ k. cell_at c.args.self.now (c.args.row + k)) c.loop-i.cells 16 Dead c.loop-i.invariant.len (λ k lt. c.loop-i.invariant.set k (omega arith))

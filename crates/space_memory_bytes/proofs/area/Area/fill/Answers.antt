use Rattle.std.proofs.Common.{◌≡◌, ℕ, ◌+◌, ◌-◌, List, Option, Some, length, get_or, ap, subst, arith}
use Rattle.space_memory_bytes.specs.Areas.{AreaState}
use Rattle.space_memory_bytes.specs.AreaChanges.{ChangesArea}
use Rattle.space_memory_bytes.proofs.Cells.{changes_area}
use Rattle.space_memory_bytes.proofs.area.Area.fill.Goals as goal

pub fill-requires-clause-in_cells : goal.fill-requires-clause-in_cells
fill-requires-clause-in_cells c =
    let base = ap (λ (a : AreaState). a.base) c.self.view_is in
    let size = ap (λ (a : AreaState). length a.cells) c.self.view_is in
    omega (arith, base, size, c.requires.in_area, c.requires.from_base)

pub returns : goal.returns
returns c =
    let base = ap (λ (a : AreaState). a.base) c.self.view_is in
    let first = c.args.range.addr - c.self.inside.base in
    let new : AreaState = record { base = c.self.inside.base; cells = c.fill.new.self } in
    subst (λ (old : AreaState). ChangesArea c.args.range.addr c.args.range.len (λ i. c.args.byte) old new) c.self.view_is
    (changes_area c.self.inside.base first c.args.range.addr c.args.range.len (first + c.args.range.len - first) (λ i. c.args.byte) c.self.inside.cells c.fill.new.self (omega (arith, base, c.requires.from_base)) (omega arith) c.fill.ensures)

use Rattle.std.proofs.Common.{◌≡◌, ℕ, ◌+◌, ◌-◌, List, Option, Some, length, get_or, refl, ap, subst, arith}
use Rattle.space_memory_bytes.specs.Areas.{AreaState}
use Rattle.space_memory_bytes.specs.AreaChanges.{ChangesArea}
use Rattle.space_memory_bytes.proofs.Cells.{changes_area}
use Rattle.space_memory_bytes.proofs.area.Area.put.Goals as goal

pub put-requires-clause-in_cells : goal.put-requires-clause-in_cells
put-requires-clause-in_cells c =
    let base = ap (λ (a : AreaState). a.base) c.self.view_is in
    let size = ap (λ (a : AreaState). length a.cells) c.self.view_is in
    omega (arith, base, size, c.requires.in_area, c.requires.from_base)

pub returns : goal.returns
returns c =
    let base = ap (λ (a : AreaState). a.base) c.self.view_is in
    let first = c.args.addr - c.self.inside.base in
    let n = length c.args.bytes.now in
    let new : AreaState = record { base = c.self.inside.base; cells = c.put.new.self } in
    subst (λ (old : AreaState). ChangesArea c.args.addr n (λ i. Some (get_or c.args.bytes.now i 0)) old new) c.self.view_is
    (changes_area c.self.inside.base first c.args.addr n n (λ i. Some (get_or c.args.bytes.now i 0)) c.self.inside.cells c.put.new.self (omega (arith, base, c.requires.from_base)) refl c.put.ensures)

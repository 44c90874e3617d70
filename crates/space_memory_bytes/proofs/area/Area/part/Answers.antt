use Rattle.std.proofs.Common.{◌≡◌, ℕ, ◌+◌, ◌-◌, ◌<◌, length, ap, sym, subst, arith}
use Rattle.space_memory_bytes.specs.Areas.{AreaState}
use Rattle.space_memory_bytes.specs.AreaChanges.{IsLiveRun}
use Rattle.space_memory_bytes.proofs.Cells.{run_is}
use Rattle.space_memory_bytes.proofs.area.Area.part.Goals as goal

pub part-requires-clause-in_cells : goal.part-requires-clause-in_cells
part-requires-clause-in_cells c =
    let base = ap (λ (a : AreaState). a.base) c.self.view_is in
    let size = ap (λ (a : AreaState). length a.cells) c.self.view_is in
    omega (arith, base, size, c.requires.in_area, c.requires.from_base)

pub part-requires-clause-live : goal.part-requires-clause-live
part-requires-clause-live c = λ i lt.
    let base = ap (λ (a : AreaState). a.base) c.self.view_is in
    let live = subst (λ (a : AreaState). IsLiveRun a c.args.addr c.args.n) (sym c.self.view_is) c.requires.live in
    (run_is c.self.inside.base (c.args.addr - c.self.inside.base) c.args.addr c.args.n c.self.inside.cells (omega (arith, base, c.requires.from_base))).1 live i (omega (arith, lt))

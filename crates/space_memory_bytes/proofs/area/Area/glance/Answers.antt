use Rattle.std.proofs.Common.{◌≡◌, ℕ, ◌+◌, ◌-◌, ◌<◌, length, IfSome, ap, subst, arith}
use Rattle.std.specs.Prelude.{IsSome}
use Rattle.space_memory_bytes.specs.Areas.{AreaState, holds}
use Rattle.space_memory_bytes.specs.AreaChanges.{IsLiveRun, IsNumber}
use Rattle.space_memory_bytes.specs.Marks.{HasDigits}
use Rattle.space_memory_bytes.proofs.Cells.{run_is, number_from}
use Rattle.space_memory_bytes.proofs.Lookup.{holds_parts}
use Rattle.space_memory_bytes.proofs.Tools.{if_some}
use Rattle.space_memory_bytes.proofs.area.Area.glance.Goals as goal

pub glance-requires : goal.glance-requires
glance-requires c =
    let inside = holds_parts c.args.self.now c.args.addr c.requires in
    let base = ap (λ (a : AreaState). a.base) c.self.view_is in
    let size = ap (λ (a : AreaState). length a.cells) c.self.view_is in
    omega (arith, inside.0, inside.1, base, size)

pub returns-clause-live : goal.returns-clause-live
returns-clause-live c =
    let inside = holds_parts c.args.self.now c.args.addr c.requires in
    let base = ap (λ (a : AreaState). a.base) c.self.view_is in
    let at = c.args.addr - c.self.inside.base in
    let runs = run_is c.self.inside.base at c.args.addr c.args.width c.self.inside.cells (omega (arith, inside.0, base)) in
    subst (λ (a : AreaState). IsSome c.glance.result → IsLiveRun a c.args.addr c.args.width) c.self.view_is
    (λ some. runs.0 (c.glance.ensures.live some))

pub returns-clause-number : goal.returns-clause-number
returns-clause-number c =
    let inside = holds_parts c.args.self.now c.args.addr c.requires in
    let base = ap (λ (a : AreaState). a.base) c.self.view_is in
    let at = c.args.addr - c.self.inside.base in
    subst (λ (a : AreaState). IfSome c.glance.result (IsNumber a c.args.addr c.args.width)) c.self.view_is
    (if_some c.glance.result (HasDigits c.self.inside.cells at c.args.width) _
    (λ value digits. number_from c.self.inside.base at c.args.addr c.args.width value c.self.inside.cells (omega (arith, inside.0, base)) digits)
    c.glance.ensures.digits)

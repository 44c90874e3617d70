use Rattle.std.proofs.Common.{◌≡◌, ◌↔◌, ℕ, ◌+◌, ◌-◌, ◌<◌, true, Some, length, refl, ap, subst, ◌∙◌, arith}
use Rattle.std.specs.Bool.{OnTrue, OnFalse}
use Rattle.space_memory_bytes.specs.Areas.{AreaState, holds}
use Rattle.space_memory_bytes.specs.AreaChanges.{IsLiveRun, WritesArea}
use Rattle.space_memory_bytes.specs.Marks.{WritesDigits}
use Rattle.space_memory_bytes.specs.Numbers.{digit}
use Rattle.space_memory_bytes.proofs.Cells.{run_is, changes_area}
use Rattle.space_memory_bytes.proofs.Lookup.{holds_parts}
use Rattle.space_memory_bytes.proofs.Tools.{on_true, on_false}
use Rattle.space_memory_bytes.proofs.area.Area.overwrite.Goals as goal

pub overwrite-requires-clause-in_cells : goal.overwrite-requires-clause-in_cells
overwrite-requires-clause-in_cells c =
    let inside = holds_parts c.args.self.now c.args.addr c.requires.held in
    let base = ap (λ (a : AreaState). a.base) c.self.view_is in
    let size = ap (λ (a : AreaState). length a.cells) c.self.view_is in
    omega (arith, inside.0, inside.1, base, size)

pub returns-clause-live : goal.returns-clause-live
returns-clause-live c =
    let inside = holds_parts c.args.self.now c.args.addr c.requires.held in
    let base = ap (λ (a : AreaState). a.base) c.self.view_is in
    let at = c.args.addr - c.self.inside.base in
    let runs = run_is c.self.inside.base at c.args.addr c.args.width c.self.inside.cells (omega (arith, inside.0, base)) in
    subst (λ (a : AreaState). (c.overwrite.result ≡ true) ↔ IsLiveRun a c.args.addr c.args.width) c.self.view_is
    (λ yes. runs.0 (c.overwrite.ensures.live.0 yes), λ live. c.overwrite.ensures.live.1 (runs.1 live))

pub returns-clause-written : goal.returns-clause-written
returns-clause-written c =
    let inside = holds_parts c.args.self.now c.args.addr c.requires.held in
    let base = ap (λ (a : AreaState). a.base) c.self.view_is in
    let at = c.args.addr - c.self.inside.base in
    let new : AreaState = record { base = c.self.inside.base; cells = c.overwrite.new.self } in
    subst (λ (old : AreaState). OnTrue c.overwrite.result (WritesArea c.args.addr c.args.width c.args.value old new)) c.self.view_is
    (on_true c.overwrite.result (WritesDigits at c.args.width c.args.value c.self.inside.cells c.overwrite.new.self) _
    (λ yes writes. changes_area c.self.inside.base at c.args.addr c.args.width c.args.width (λ i. Some (digit c.args.value i)) c.self.inside.cells c.overwrite.new.self (omega (arith, inside.0, base)) refl writes)
    c.overwrite.ensures.written)

pub returns-clause-unchanged : goal.returns-clause-unchanged
returns-clause-unchanged c =
    on_false c.overwrite.result (c.overwrite.new.self ≡ c.self.inside.cells) _
    (λ same. ap (λ cells. let a : AreaState = record { base = c.self.inside.base; cells = cells } in a) same ∙ c.self.view_is)
    c.overwrite.ensures.unchanged

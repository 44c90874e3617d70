use Rattle.std.proofs.Common.{◌*◌, ◌/◌, ◌≤◌, ℕ, Option, sym, subst}
use Rattle.space_memory_bytes.specs.Nexts.{IsNext, IsNextOf}
use Rattle.space_memory_bytes.specs.Areas.{IsDead}
use Rattle.space_memory.specs.Spaces.{SpaceState}
use Rattle.space_memory.specs.Cells.{IsLiveRow}
use Rattle.space_memory.proofs.Rows.{no_row, row_of}
use Rattle.space_memory.proofs.spaces.Spaces.live_row.Goals as goal

pub returns-in_err-addr : goal.returns-in_err-addr
returns-in_err-addr c =
    let spaces : SpaceState = record { bytes = c.self.inside.bytes; held = c.self.inside.held; sides = c.self.inside.sides } in
    subst (λ (o : Option ℕ). IsNextOf (IsLiveRow c.args.self.now) c.args.from o) (sym c.from_residual.ensures)
    (subst (λ (s : SpaceState). (y : ℕ) → c.args.from ≤ y → ¬ IsLiveRow s y) c.self.view_is (no_row spaces c.args.from c.requires c.in_err-addr.ensures))

pub returns : goal.returns
returns c =
    let spaces : SpaceState = record { bytes = c.self.inside.bytes; held = c.self.inside.held; sides = c.self.inside.sides } in
    subst (λ (s : SpaceState). IsNext (IsLiveRow s) c.args.from (c.in_ok-addr.addr / 16 * 16)) c.self.view_is (row_of spaces c.args.from c.requires c.in_ok-addr.addr c.in_ok-addr.ensures)

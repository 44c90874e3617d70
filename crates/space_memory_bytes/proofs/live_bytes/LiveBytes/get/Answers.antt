use Rattle.std.proofs.Common.{◌≡◌, List, get_or, ap, sym, ◌∙◌}
use Rattle.space_memory_bytes.specs.Areas.{AreaState}
use Rattle.space_memory_bytes.proofs.Changes.{held_by, held_is}
use Rattle.space_memory_bytes.proofs.Lookup.{byte_at_absent}
use Rattle.space_memory_bytes.proofs.live_bytes.LiveBytes.get.Goals as goal

-- no area has the address
pub returns-in_err-at : goal.returns-in_err-at
returns-in_err-at c = c.from_residual.ensures ∙ sym (byte_at_absent c.args.self.now c.args.addr c.in_err-at.ensures.none)

-- the area that has it tells
pub returns : goal.returns
returns c =
    let area = c.index-area.result.now in
    let at = c.in_ok-at.at in
    let found = c.in_ok-at.ensures.found in
    let is : area ≡ get_or c.args.self.now at area = c.index-area.ensures ∙ ap (λ (areas : List AreaState). get_or areas at area) c.self.view_is in
    let held = held_by c.args.self.now at c.args.addr area is found in
    c.get.ensures ∙ sym (held_is c.args.self.now c.in_ok-at.ensures.rising at area found.0 is c.args.addr held)

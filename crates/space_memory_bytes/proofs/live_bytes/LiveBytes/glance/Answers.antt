use Rattle.std.proofs.Common.{◌≡◌, ℕ}
use Rattle.space_memory_bytes.specs.AreaChanges.{IsNumber}
use Rattle.space_memory_bytes.specs.Numbers.{HasNumber}
use Rattle.space_memory_bytes.proofs.Found.{found_holds, found_live, found_number}
use Rattle.space_memory_bytes.proofs.Tools.{if_some}
use Rattle.space_memory_bytes.proofs.live_bytes.LiveBytes.glance.Goals as goal

pub glance-requires : goal.glance-requires
glance-requires c = found_holds _ c.args.self.now c.self.view_is c.in-Some.ensures.rising c.in-Some.at _ c.index-area.ensures c.args.addr c.in-Some.ensures.found

pub returns-in-Some-clause-live : goal.returns-in-Some-clause-live
returns-in-Some-clause-live c =
    let lives = found_live _ c.args.self.now c.self.view_is c.in-Some.ensures.rising c.in-Some.at _ c.index-area.ensures c.args.addr c.in-Some.ensures.found c.args.width in
    λ some. lives.1 (c.glance.ensures.live some)

pub returns-in-Some-clause-number : goal.returns-in-Some-clause-number
returns-in-Some-clause-number c =
    if_some c.glance.result (IsNumber c.index-area.result.now c.args.addr c.args.width) (HasNumber c.args.self.now c.args.addr c.args.width)
    (λ value has. found_number _ c.args.self.now c.self.view_is c.in-Some.ensures.rising c.in-Some.at _ c.index-area.ensures c.args.addr c.in-Some.ensures.found c.args.width value has)
    c.glance.ensures.number

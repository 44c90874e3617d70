use Rattle.std.proofs.Common.{◌≡◌, ℕ, true, false, arith}
use Rattle.space_memory_bytes.specs.AreaChanges.{IsNumber}
use Rattle.space_memory_bytes.specs.Numbers.{HasNumber}
use Rattle.space_memory_bytes.proofs.Found.{found_holds, found_live, found_number, no_area}
use Rattle.space_memory_bytes.proofs.Tools.{if_some}
use Rattle.space_memory_bytes.proofs.live_bytes.LiveBytes.number.Goals as goal

pub number-requires-clause-held : goal.number-requires-clause-held
number-requires-clause-held c = found_holds _ c.args.self.now c.self.view_is c.in-Some.ensures.rising c.in-Some.at _ c.index-area.ensures c.args.addr c.in-Some.ensures.found

pub returns-in-Some-clause-live : goal.returns-in-Some-clause-live
returns-in-Some-clause-live c =
    let lives = found_live _ c.args.self.now c.self.view_is c.in-Some.ensures.rising c.in-Some.at _ c.index-area.ensures c.args.addr c.in-Some.ensures.found c.args.width in
    (λ some. lives.1 (c.number.ensures.live.0 some), λ live. c.number.ensures.live.1 (lives.0 live))

pub returns-in-Some-clause-number : goal.returns-in-Some-clause-number
returns-in-Some-clause-number c =
    if_some c.number.result (IsNumber c.index-area.result.now c.args.addr c.args.width) (HasNumber c.args.self.now c.args.addr c.args.width)
    (λ value has. found_number _ c.args.self.now c.self.view_is c.in-Some.ensures.rising c.in-Some.at _ c.index-area.ensures c.args.addr c.in-Some.ensures.found c.args.width value has)
    c.number.ensures.number

pub returns-in-None-clause-live : goal.returns-in-None-clause-live
returns-in-None-clause-live c = (λ (no : false ≡ true). absurd (cc), λ live. absurd (no_area c.args.self.now c.args.addr c.args.width c.requires.some live c.in-None.ensures.none))

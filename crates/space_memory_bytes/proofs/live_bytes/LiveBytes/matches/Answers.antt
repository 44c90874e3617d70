use Rattle.std.proofs.Common.{◌≡◌, ℕ, ◌+◌, ◌<◌, true, false, length, get_or, Some, arith}
use Rattle.space_memory_bytes.specs.Numbers.{HasBytes}
use Rattle.space_memory_bytes.proofs.Changes.{some_live}
use Rattle.space_memory_bytes.proofs.Found.{found_holds, found_bytes, no_area}
use Rattle.space_memory_bytes.specs.Areas.{byte_at}
use Rattle.space_memory_bytes.proofs.Tools.{some_of}
use Rattle.space_memory_bytes.proofs.live_bytes.LiveBytes.matches.Goals as goal

pub matches-requires : goal.matches-requires
matches-requires c = found_holds _ c.args.self.now c.self.view_is c.in-Some.ensures.rising c.in-Some.at _ c.index-area.ensures c.args.addr c.in-Some.ensures.found

pub returns-in-Some : goal.returns-in-Some
returns-in-Some c =
    let has = found_bytes _ c.args.self.now c.self.view_is c.in-Some.ensures.rising c.in-Some.at _ c.index-area.ensures c.args.addr c.in-Some.ensures.found c.args.bytes.now in
    (λ yes. has.1 (c.matches.ensures.0 yes), λ all. c.matches.ensures.1 (has.0 all))

pub returns-in-None : goal.returns-in-None
returns-in-None c = (λ (no : false ≡ true). absurd (cc), λ has. absurd (no_area c.args.self.now c.args.addr (length c.args.bytes.now) (some_of _ _ c.is_empty.ensures c.if-is_empty.false) (λ i lt. some_live (byte_at c.args.self.now (c.args.addr + i)) (get_or c.args.bytes.now i 0) (has i lt)) c.in-None.ensures.none))

use Rattle.std.proofs.Common.{◌≡◌, ℕ, List, sym, subst, arith}
use Rattle.space_memory_bytes.specs.Numbers.{HasBytes}
use Rattle.space_memory_bytes.proofs.Lookup.{holds_parts}
use Rattle.space_memory_bytes.proofs.Found.{found_holds, found_live, found_within, found_bytes, no_area}
use Rattle.space_memory_bytes.proofs.Tools.{if_ok}
use Rattle.space_memory_bytes.proofs.live_bytes.LiveBytes.copy.Goals as goal

pub part-requires-clause-from_base : goal.part-requires-clause-from_base
part-requires-clause-from_base c =
    (holds_parts _ c.args.range.addr (found_holds _ c.args.self.now c.self.view_is c.in-Some.ensures.rising c.in-Some.at _ c.index-area.ensures c.args.range.addr c.in-Some.ensures.found)).0

pub part-requires-clause-in_area : goal.part-requires-clause-in_area
part-requires-clause-in_area c =
    found_within _ c.args.self.now c.self.view_is c.in-Some.ensures.rising c.in-Some.at _ c.index-area.ensures c.args.range.addr c.in-Some.ensures.found c.args.range.len c.requires.live

pub part-requires-clause-live : goal.part-requires-clause-live
part-requires-clause-live c =
    (found_live _ c.args.self.now c.self.view_is c.in-Some.ensures.rising c.in-Some.at _ c.index-area.ensures c.args.range.addr c.in-Some.ensures.found c.args.range.len).0 c.requires.live

pub unreachable-requires : goal.unreachable-requires
unreachable-requires c = no_area c.args.self.now c.args.range.addr c.args.range.len (omega arith) c.requires.live c.in-None.ensures.none

pub returns-clause-bytes : goal.returns-clause-bytes
returns-clause-bytes c =
    let has = found_bytes _ c.args.self.now c.self.view_is c.in-Some.ensures.rising c.in-Some.at _ c.index-area.ensures c.args.range.addr c.in-Some.ensures.found in
    if_ok c.from_slice.result (λ v. v.items ≡ c.part.result.now) (λ v. HasBytes c.args.self.now c.args.range.addr v.items)
    (λ v same. subst (λ (xs : List ℕ). HasBytes c.args.self.now c.args.range.addr xs) (sym same) ((has c.part.result.now).1 (λ i lt. c.part.ensures.values i (omega (arith, c.part.ensures.len)))))
    c.from_slice.ensures.items

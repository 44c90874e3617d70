use Rattle.std.proofs.Common.{◌≡◌, ◌≤◌, List, get_or, ap, ◌∙◌, arith}
use Rattle.space_memory_bytes.specs.Areas.{AreaState, extents, LiesIn, IsDead}
use Rattle.space_memory_bytes.proofs.Changes.{held_by, first_dead_is, live_lies, range_live_ends, ends_where_none}
use Rattle.space_memory_bytes.proofs.Lookup.{byte_at_absent}
use Rattle.space_memory_bytes.proofs.live_bytes.LiveBytes.first_dead.Goals as goal

-- no area has the first address
pub returns-in_default-clause-first : goal.returns-in_default-clause-first
returns-in_default-clause-first c = record {
  in_range = (omega arith, omega arith, omega arith);
  holds = byte_at_absent c.args.self.now c.args.range.addr c.in_default.ensures.none;
  least = λ y in_range dead. in_range.0;
}

-- the area that has it tells
pub returns-clause-first : goal.returns-clause-first
returns-clause-first c =
    let area = c.index-area.result.now in
    let at = c.in-Some.at in
    let found = c.in-Some.ensures.found in
    let is : area ≡ get_or c.args.self.now at area = c.index-area.ensures ∙ ap (λ (areas : List AreaState). get_or areas at area) c.self.view_is in
    let held = held_by c.args.self.now at c.args.range.addr area is found in
    first_dead_is c.args.self.now c.in-Some.ensures.rising at area found.0 is c.args.range held c.first_dead.result c.first_dead.ensures

-- a range with no dead byte ends before the last address
pub returns-clause-ends : goal.returns-clause-ends
returns-clause-ends c = ends_where_none c.args.range (IsDead c.args.self.now) _ c.first_dead.result (returns-clause-first c) (range_live_ends c.args.self.now c.in-Some.ensures.rising c.args.range (omega arith) (omega arith))

-- and lies in the area of its first byte
pub returns-clause-one_area : goal.returns-clause-one_area
returns-clause-one_area c =
    let area = c.index-area.result.now in
    let at = c.in-Some.at in
    let found = c.in-Some.ensures.found in
    let is : area ≡ get_or c.args.self.now at area = c.index-area.ensures ∙ ap (λ (areas : List AreaState). get_or areas at area) c.self.view_is in
    let held = held_by c.args.self.now at c.args.range.addr area is found in
    ends_where_none c.args.range (IsDead c.args.self.now) (1 ≤ c.args.range.len → LiesIn c.args.range (extents c.args.self.now)) c.first_dead.result (returns-clause-first c)
    (λ none some. live_lies c.args.self.now c.in-Some.ensures.rising at area found.0 is c.args.range held (range_live_ends c.args.self.now c.in-Some.ensures.rising c.args.range (omega arith) some none) none)

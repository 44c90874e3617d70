use Rattle.std.proofs.Common.{List, set, length, get_or, Some, sym, subst}
use Rattle.marks.specs.declared.range.Range.{Range}
use Rattle.space_memory_bytes.specs.Areas.{AreaState, RiseFrom}
use Rattle.space_memory_bytes.specs.Numbers.{SameOutside}
use Rattle.space_memory_bytes.proofs.Changes.{room_held, whole_found, extents_kept, put_bytes, changed_others}
use Rattle.space_memory_bytes.proofs.Tools.{some_of}
use Rattle.space_memory_bytes.proofs.live_bytes.LiveBytes.put.Goals as goal

pub put-requires-clause-from_base : goal.put-requires-clause-from_base
put-requires-clause-from_base c =
    let whole = whole_found _ _ c.self.view_is c.self.invariant c.in-Some.at _ c.index_mut-area.ensures.value (record { addr = c.args.addr; len = length c.args.bytes.now }) c.in-Some.ensures.found c.requires (some_of _ _ c.is_empty.ensures c.if-is_empty.false) in
    whole.from

pub put-requires-clause-in_area : goal.put-requires-clause-in_area
put-requires-clause-in_area c =
    let whole = whole_found _ _ c.self.view_is c.self.invariant c.in-Some.at _ c.index_mut-area.ensures.value (record { addr = c.args.addr; len = length c.args.bytes.now }) c.in-Some.ensures.found c.requires (some_of _ _ c.is_empty.ensures c.if-is_empty.false) in
    whole.within

pub invariant_of-self : goal.invariant_of-self
invariant_of-self c =
    let whole = whole_found _ _ c.self.view_is c.self.invariant c.in-Some.at _ c.index_mut-area.ensures.value (record { addr = c.args.addr; len = length c.args.bytes.now }) c.in-Some.ensures.found c.requires (some_of _ _ c.is_empty.ensures c.if-is_empty.false) in
    subst (λ (es : List Range). RiseFrom 0 es) (sym (extents_kept _ c.self.invariant c.in-Some.at _ whole.lt c.index_mut-area.ensures.value c.put.new.self c.put.ensures.extent)) c.self.invariant

pub returns-in-Some-clause-put : goal.returns-in-Some-clause-put
returns-in-Some-clause-put c =
    let whole = whole_found _ _ c.self.view_is c.self.invariant c.in-Some.at _ c.index_mut-area.ensures.value (record { addr = c.args.addr; len = length c.args.bytes.now }) c.in-Some.ensures.found c.requires (some_of _ _ c.is_empty.ensures c.if-is_empty.false) in
    put_bytes _ c.self.invariant c.in-Some.at _ whole.lt c.index_mut-area.ensures.value c.args.addr c.args.bytes.now c.put.new.self whole.from whole.within c.put.ensures

pub returns-in-Some-clause-ends : goal.returns-in-Some-clause-ends
returns-in-Some-clause-ends c =
    let whole = whole_found _ _ c.self.view_is c.self.invariant c.in-Some.at _ c.index_mut-area.ensures.value (record { addr = c.args.addr; len = length c.args.bytes.now }) c.in-Some.ensures.found c.requires (some_of _ _ c.is_empty.ensures c.if-is_empty.false) in
    whole.ends

pub returns-in-Some-clause-others : goal.returns-in-Some-clause-others
returns-in-Some-clause-others c =
    let whole = whole_found _ _ c.self.view_is c.self.invariant c.in-Some.at _ c.index_mut-area.ensures.value (record { addr = c.args.addr; len = length c.args.bytes.now }) c.in-Some.ensures.found c.requires (some_of _ _ c.is_empty.ensures c.if-is_empty.false) in
    subst (λ (old : List AreaState). SameOutside (record { addr = c.args.addr; len = length c.args.bytes.now }) old (set c.self.inside.areas.items c.in-Some.at c.put.new.self)) c.self.view_is
    (changed_others _ c.self.invariant c.in-Some.at _ whole.lt c.index_mut-area.ensures.value c.args.addr (length c.args.bytes.now) (λ i. Some (get_or c.args.bytes.now i 0)) c.put.new.self c.put.ensures)

-- some area has the range
pub returns-in_default-clause-put : goal.returns-in_default-clause-put
returns-in_default-clause-put c = absurd (room_held c.args.self.now (record { addr = c.args.addr; len = length c.args.bytes.now }) c.requires (some_of _ _ c.is_empty.ensures c.if-is_empty.false) c.in_default.ensures.none)

pub returns-in_default-clause-ends : goal.returns-in_default-clause-ends
returns-in_default-clause-ends c = absurd (room_held c.args.self.now (record { addr = c.args.addr; len = length c.args.bytes.now }) c.requires (some_of _ _ c.is_empty.ensures c.if-is_empty.false) c.in_default.ensures.none)

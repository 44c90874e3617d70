use Rattle.std.proofs.Common.{List, set, sym, subst, arith}
use Rattle.marks.specs.declared.range.Range.{Range}
use Rattle.space_memory_bytes.specs.Areas.{AreaState, RiseFrom}
use Rattle.space_memory_bytes.specs.Numbers.{FillsWith}
use Rattle.space_memory_bytes.proofs.Changes.{room_held, whole_found, extents_kept, fills_with}
use Rattle.space_memory_bytes.proofs.live_bytes.LiveBytes.fill.Goals as goal

pub fill-requires-clause-from_base : goal.fill-requires-clause-from_base
fill-requires-clause-from_base c =
    let whole = whole_found _ _ c.self.view_is c.self.invariant c.in-Some.at _ c.index_mut-area.ensures.value c.args.range c.in-Some.ensures.found c.requires (omega arith) in
    whole.from

pub fill-requires-clause-in_area : goal.fill-requires-clause-in_area
fill-requires-clause-in_area c =
    let whole = whole_found _ _ c.self.view_is c.self.invariant c.in-Some.at _ c.index_mut-area.ensures.value c.args.range c.in-Some.ensures.found c.requires (omega arith) in
    whole.within

pub invariant_of-self : goal.invariant_of-self
invariant_of-self c =
    let whole = whole_found _ _ c.self.view_is c.self.invariant c.in-Some.at _ c.index_mut-area.ensures.value c.args.range c.in-Some.ensures.found c.requires (omega arith) in
    subst (λ (es : List Range). RiseFrom 0 es) (sym (extents_kept _ c.self.invariant c.in-Some.at _ whole.lt c.index_mut-area.ensures.value c.fill.new.self c.fill.ensures.extent)) c.self.invariant

pub returns-in-Some-clause-fills : goal.returns-in-Some-clause-fills
returns-in-Some-clause-fills c =
    let whole = whole_found _ _ c.self.view_is c.self.invariant c.in-Some.at _ c.index_mut-area.ensures.value c.args.range c.in-Some.ensures.found c.requires (omega arith) in
    subst (λ (old : List AreaState). FillsWith c.args.range c.args.byte old (set c.self.inside.areas.items c.in-Some.at c.fill.new.self)) c.self.view_is
    (fills_with _ c.self.invariant c.in-Some.at _ whole.lt c.index_mut-area.ensures.value c.args.range c.args.byte c.fill.new.self whole.from whole.within c.fill.ensures)

-- some area has the range
pub returns-in_default-clause-fills : goal.returns-in_default-clause-fills
returns-in_default-clause-fills c = absurd (room_held c.args.self.now c.args.range c.requires (omega arith) c.in_default.ensures.none)

pub returns-in-Some-clause-ends : goal.returns-in-Some-clause-ends
returns-in-Some-clause-ends c =
    let whole = whole_found _ _ c.self.view_is c.self.invariant c.in-Some.at _ c.index_mut-area.ensures.value c.args.range c.in-Some.ensures.found c.requires (omega arith) in
    whole.ends

pub returns-in_default-clause-ends : goal.returns-in_default-clause-ends
returns-in_default-clause-ends c = absurd (room_held c.args.self.now c.args.range c.requires (omega arith) c.in_default.ensures.none)

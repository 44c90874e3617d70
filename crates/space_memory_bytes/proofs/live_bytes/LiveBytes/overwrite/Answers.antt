use Rattle.std.proofs.Common.{◌≡◌, ℕ, true, false, List, set, sym, subst, Some, arith}
use Rattle.marks.specs.declared.range.Range.{Range}
use Rattle.space_memory_bytes.specs.Areas.{AreaState, RiseFrom, IsHolder}
use Rattle.space_memory_bytes.specs.AreaChanges.{WritesArea}
use Rattle.space_memory_bytes.specs.Numbers.{digit, HasNumber, SameOutside}
use Rattle.space_memory_bytes.proofs.Lookup.{holds_parts}
use Rattle.space_memory_bytes.proofs.Changes.{extents_kept, changed_others, written_number}
use Rattle.space_memory_bytes.proofs.Found.{found_holds, found_live, found_within, no_area, extent_stays, areas_stay}
use Rattle.space_memory_bytes.proofs.Tools.{on_true}
use Rattle.space_memory_bytes.proofs.live_bytes.LiveBytes.overwrite.Goals as goal

pub overwrite-requires-clause-held : goal.overwrite-requires-clause-held
overwrite-requires-clause-held c = found_holds _ c.args.self.now c.self.view_is c.in-Some.ensures.rising c.in-Some.at _ c.index_mut-area.ensures.value c.args.addr c.in-Some.ensures.found

pub invariant_of-self : goal.invariant_of-self
invariant_of-self c =
    let found = subst (λ (areas : List AreaState). IsHolder areas c.args.addr c.in-Some.at) (sym c.self.view_is) c.in-Some.ensures.found in
    subst (λ (es : List Range). RiseFrom 0 es) (sym (extents_kept _ c.self.invariant c.in-Some.at _ found.0 c.index_mut-area.ensures.value c.overwrite.new.self (extent_stays c.overwrite.result c.args.addr c.args.width c.args.value _ c.overwrite.new.self c.overwrite.ensures.written c.overwrite.ensures.unchanged))) c.self.invariant

pub returns-in-Some-clause-live : goal.returns-in-Some-clause-live
returns-in-Some-clause-live c =
    let lives = found_live _ c.args.self.now c.self.view_is c.in-Some.ensures.rising c.in-Some.at _ c.index_mut-area.ensures.value c.args.addr c.in-Some.ensures.found c.args.width in
    (λ yes. lives.1 (c.overwrite.ensures.live.0 yes), λ live. c.overwrite.ensures.live.1 (lives.0 live))

pub returns-in-Some-clause-written : goal.returns-in-Some-clause-written
returns-in-Some-clause-written c =
    let a = c.index_mut-area.result.now in
    let new = c.overwrite.new.self in
    let found = subst (λ (areas : List AreaState). IsHolder areas c.args.addr c.in-Some.at) (sym c.self.view_is) c.in-Some.ensures.found in
    let held = found_holds _ c.args.self.now c.self.view_is c.in-Some.ensures.rising c.in-Some.at _ c.index_mut-area.ensures.value c.args.addr c.in-Some.ensures.found in
    let lives = found_live _ c.args.self.now c.self.view_is c.in-Some.ensures.rising c.in-Some.at _ c.index_mut-area.ensures.value c.args.addr c.in-Some.ensures.found c.args.width in
    on_true c.overwrite.result (WritesArea c.args.addr c.args.width c.args.value a new) (HasNumber (set c.self.inside.areas.items c.in-Some.at new) c.args.addr c.args.width c.args.value)
    (λ yes writes.
    written_number _ c.self.invariant c.in-Some.at _ found.0 c.index_mut-area.ensures.value c.args.addr c.args.width c.args.value new (holds_parts a c.args.addr held).0
    (found_within _ c.args.self.now c.self.view_is c.in-Some.ensures.rising c.in-Some.at _ c.index_mut-area.ensures.value c.args.addr c.in-Some.ensures.found c.args.width (lives.1 (c.overwrite.ensures.live.0 yes))) writes)
    c.overwrite.ensures.written

pub returns-in-Some-clause-others : goal.returns-in-Some-clause-others
returns-in-Some-clause-others c =
    let a = c.index_mut-area.result.now in
    let new = c.overwrite.new.self in
    let found = subst (λ (areas : List AreaState). IsHolder areas c.args.addr c.in-Some.at) (sym c.self.view_is) c.in-Some.ensures.found in
    let r : Range = record { addr = c.args.addr; len = c.args.width } in
    on_true c.overwrite.result (WritesArea c.args.addr c.args.width c.args.value a new) (SameOutside r c.args.self.now (set c.self.inside.areas.items c.in-Some.at new))
    (λ yes writes. subst (λ (old : List AreaState). SameOutside r old (set c.self.inside.areas.items c.in-Some.at new)) c.self.view_is
    (changed_others _ c.self.invariant c.in-Some.at _ found.0 c.index_mut-area.ensures.value c.args.addr c.args.width (λ i. Some (digit c.args.value i)) new writes))
    c.overwrite.ensures.written

pub returns-in-Some-clause-unchanged : goal.returns-in-Some-clause-unchanged
returns-in-Some-clause-unchanged c = areas_stay _ c.args.self.now c.in-Some.at _ c.overwrite.new.self c.overwrite.result c.self.view_is c.index_mut-area.ensures.value c.overwrite.ensures.unchanged

pub returns-in-None-clause-live : goal.returns-in-None-clause-live
returns-in-None-clause-live c = (λ (no : false ≡ true). absurd (cc), λ live. absurd (no_area c.args.self.now c.args.addr c.args.width c.requires.some live c.in-None.ensures.none))

use Rattle.std.proofs.Common.{◌≡◌, List, [], All, sym, subst, ap, ◌∙◌, arith}
use Rattle.memory_map.specs.declared.placed.Place.{Place}
use Rattle.memory_map.specs.declared.areas.TheConstants.{REPLAY_STACKS, REPLAY_POOL, SYSTEM_STACKS, SYSTEM_POOL}
use Rattle.space_memory_bytes.specs.Areas.{extents}
use Rattle.space_memory_access.specs.declared.holder.Region.{Region}
use Rattle.space_memory_access.specs.Held.{HeldState}
use Rattle.space_memory.specs.declared.sides.Sides.{Sides}
use Rattle.space_memory.specs.Sides.{SideState, fresh_side}
use Rattle.space_memory.proofs.Kept.{kept_along}
use Rattle.space_memory.specs.Spaces.{IsKept}
use Rattle.space_memory.specs.Objects.{IsInArea, areas_to}
use Rattle.space_memory.proofs.Placing.{objects_lie, kept_fresh}
use Rattle.space_memory.proofs.spaces.Spaces.new.Goals as goal

pub put_objects-requires : goal.put_objects-requires
put_objects-requires c =
    let end = c.max-end.result in
    let objects = c.as_slice-globals.result.now in
    objects_lie end objects (extents c.in_ok-bytes.bytes) (c.in_ok-bytes.ensures.areas ∙ c.areas.ensures) (omega (arith, c.end_of_constants.ensures.from, c.max-end.ensures))
    (λ k d lt low. let le = c.end_of_constants.ensures.all k d lt low in omega (arith, c.max-end.ensures))
    (subst (λ (os : List Place). All IsInArea os) (sym c.as_slice-globals.ensures) c.requires.globals)

pub put_objects-requires-2 : goal.put_objects-requires-2
put_objects-requires-2 c =
    let end = c.max-end.result in
    let objects = c.as_slice-strings.result.now in
    objects_lie end objects (extents c.put_objects.new.bytes) (c.put_objects.ensures.areas ∙ c.in_ok-bytes.ensures.areas ∙ c.areas.ensures) (omega (arith, c.end_of_constants.ensures.from, c.max-end.ensures))
    (λ k d lt low. let le = c.end_of_constants-2.ensures.all k d lt low in omega (arith, c.max-end.ensures))
    (subst (λ (os : List Place). All IsInArea os) (sym c.as_slice-strings.ensures) c.requires.strings)

pub invariant_of-result : goal.invariant_of-result
invariant_of-result c =
    let end = c.max-end.result in
    let sides : Sides = c.in_ok-sides.sides in
    let replay : SideState = fresh_side REPLAY_STACKS REPLAY_POOL in
    let system : SideState = fresh_side SYSTEM_STACKS SYSTEM_POOL in
    let fresh : Sides = record { replay = replay; system = system } in
    let same : sides ≡ fresh = ap (λ (s : SideState). let t : Sides = record { replay = s; system = sides.system } in t) c.in_ok-sides.ensures.replay ∙ ap (λ (s : SideState). let t : Sides = record { replay = replay; system = s } in t) c.in_ok-sides.ensures.system in
    let areas = c.put_objects-2.ensures.areas ∙ c.put_objects.ensures.areas ∙ c.in_ok-bytes.ensures.areas ∙ c.areas.ensures in
    let none : List Region = [] in
    subst (λ (rs : List Region). IsKept (extents c.put_objects-2.new.bytes) rs sides) (sym (ap (λ (h : HeldState). h.regions) c.in_ok-held.ensures))
    (kept_along (areas_to end) (extents c.put_objects-2.new.bytes) none fresh sides areas same (kept_fresh end))

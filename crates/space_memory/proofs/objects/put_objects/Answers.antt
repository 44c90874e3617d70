use Rattle.std.proofs.Common.{ℕ, List, length, sym, subst}
use Rattle.memory_map.specs.declared.placed.Place.{Place}
use Rattle.marks.specs.declared.range.Range.{Range}
use Rattle.space_memory_bytes.specs.Areas.{extents, LiesIn}
use Rattle.space_memory.specs.Objects.{object_range}
use Rattle.space_memory.proofs.objects.put_objects.Goals as goal

pub put-requires : goal.put-requires
put-requires c =
    let object = c.object-item.result in
    let here = c.requires c.loop-object.object-index object c.loop-object-test.true in
    let lies = subst (λ (o : Place). LiesIn (object_range o) (extents c.args.bytes.now)) (sym c.object-item.is) here in
    let now = subst (λ (rs : List Range). LiesIn (object_range object) rs) (sym c.loop-object.invariant.areas) lies in
    subst (λ (bytes : List ℕ). LiesIn (let r : Range = record { addr = object.addr; len = length bytes } in r) (extents c.loop-object.bytes)) (sym c.as_slice.ensures) now

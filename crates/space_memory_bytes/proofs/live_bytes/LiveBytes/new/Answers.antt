use Rattle.std.proofs.Common.{List, ap, ◌∙◌, get_or, [], arith}
use Rattle.space_memory_bytes.specs.Areas.{AreaState, byte_at, cell, extent, extents}
use Rattle.space_memory_bytes.proofs.Lookup.{range_ends, dead_cell, byte_at_push, extents_push, extent_dead, byte_at_absent}
use Rattle.space_memory_bytes.proofs.live_bytes.LiveBytes.new.Goals as goal

pub new-requires : goal.new-requires
new-requires c = range_ends 0 c.args.ranges.now c.requires _ _ c.loop-range-test.true

-- there are no areas yet
pub loop-range-init : goal.loop-range-init
loop-range-init c = record {
  areas = ap (λ (areas : List AreaState). extents areas) c.new-areas.ensures.items;
  dead = λ x. ap (λ (areas : List AreaState). byte_at areas x) c.new-areas.ensures.items ∙ byte_at_absent [] x (λ at d lt. absurd (omega arith));
}

-- an area of dead bytes more
pub loop-range-preserved : goal.loop-range-preserved
loop-range-preserved c =
    let r = get_or c.args.ranges.now c.loop-range.range-index (record { addr = 0; len = 0 }) in
    record {
      areas = ap (λ (areas : List AreaState). extents areas) c.in_ok-push.ensures.items
          ∙ extents_push c.args.ranges.now c.loop-range.areas.items c.in_ok-new.field-0 c.loop-range.range-index (record { addr = 0; len = 0 }) c.loop-range-test.true c.loop-range.invariant.areas (ap (λ (a : AreaState). extent a) c.in_ok-new.ensures ∙ extent_dead r);
      dead = λ x. ap (λ (areas : List AreaState). byte_at areas x) c.in_ok-push.ensures.items
          ∙ byte_at_push c.loop-range.areas.items c.in_ok-new.field-0 x (c.loop-range.invariant.dead x) (ap (λ (a : AreaState). cell a x) c.in_ok-new.ensures ∙ dead_cell r.addr r.len x);
    }

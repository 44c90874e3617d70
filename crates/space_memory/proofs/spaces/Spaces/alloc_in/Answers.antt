use Rattle.space_memory_bytes.specs.Areas.{extents}
use Rattle.space_memory.specs.Spaces.{side_of}
use Rattle.space_memory.proofs.Kept.{housed_side, housed_blocks, kept_side, kept_along}
use Rattle.space_memory.proofs.spaces.Spaces.alloc_in.Goals as goal

pub invariant_of-self-2 : goal.invariant_of-self-2
invariant_of-self-2 c =
    let housed = housed_side _ _ c.self.inside.sides c.args.side c.self.invariant in
    kept_along (extents c.self.inside.bytes) (extents c.fill.new.self) c.self.inside.held.regions _ c.take.new.self c.fill.ensures.fills.others.areas c.in_ok-addr.ensures.taken
    (kept_side _ _ c.self.inside.sides c.args.side _ c.self.invariant (housed_blocks _ (side_of c.self.inside.sides c.args.side) _ housed))

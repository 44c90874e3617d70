use Rattle.space_memory_bytes.specs.Areas.{extents}
use Rattle.space_memory.specs.StackFrames.{stack_of}
use Rattle.space_memory.specs.Sides.{stack_range}
use Rattle.space_memory.specs.Spaces.{side_of}
use Rattle.space_memory.proofs.Ranges.{within_lies}
use Rattle.space_memory.proofs.Kept.{housed_side, housed_stack, housed_thread, kept_side, kept_along}
use Rattle.space_memory.proofs.spaces.Spaces.leave.Goals as goal

pub fill-requires : goal.fill-requires
fill-requires c =
    let side = side_of c.self.inside.sides c.args.side in
    let housed = housed_side _ _ c.self.inside.sides c.args.side c.self.invariant in
    within_lies (stack_range (stack_of side.stacks c.args.thread)) c.leave-frame.result (extents c.self.inside.bytes) c.leave-frame.ensures.in_stack (housed_stack _ side c.args.thread c.requires.in_range housed).0

pub invariant_of-self : goal.invariant_of-self
invariant_of-self c =
    let side = side_of c.self.inside.sides c.args.side in
    let housed = housed_side _ _ c.self.inside.sides c.args.side c.self.invariant in
    kept_along (extents c.self.inside.bytes) (extents c.fill.new.self) c.self.inside.held.regions _ c.leave-frame.new.self c.fill.ensures.fills.others.areas c.leave-frame.ensures.others
    (kept_side _ _ c.self.inside.sides c.args.side _ c.self.invariant (housed_thread _ side c.args.thread _ c.requires.in_range housed))

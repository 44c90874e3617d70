use Rattle.std.proofs.Common.{refl}
use Rattle.space_memory.specs.Sides.{frames_of, top_of}
use Rattle.steps_above_memory.proofs.Leaving.{left_top}
use Rattle.whole_runs_memory.proofs.Plain.{taken}
use Rattle.recorder_memory.proofs.Frames.{leave_made}
use Rattle.recorder_memory.proofs.memory.Memory.leave_below.Goals as goal

pub unreachable-requires : goal.unreachable-requires
unreachable-requires c = taken c.args.self.now.above.spaces.held.regions (top_of c.args.self.now.above.spaces.sides.system c.args.thread) c.in-Err.field-0 ((c.leave.ensures.refused c.in-Err.field-0).0 c.in-Err.is)

pub returns-clause-top : goal.returns-clause-top
returns-clause-top c = left_top (frames_of c.args.self.now.above.spaces.sides.system c.args.thread) (frames_of c.leave.new.self.sides.system c.args.thread) c.in-Ok.frame c.in-Ok.ensures.left

pub returns-clause-left : goal.returns-clause-left
returns-clause-left c = leave_made c.args.self.now _ c.args.thread c.in-Ok.frame c.requires.in_range c.in-Ok.ensures.left c.in-Ok.ensures.others c.in-Ok.ensures.dead c.leave.ensures.held refl

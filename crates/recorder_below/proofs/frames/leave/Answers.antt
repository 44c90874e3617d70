use Rattle.marks.specs.declared.side.Side.TheVariants.{System}
use Rattle.recorder_threads.specs.declared.wants.Want.TheVariants as told
use Rattle.recorder_state.specs.Inputs.{world_of}
use Rattle.recorder_plain.proofs.Steps.{few}
use Rattle.recorder_below.proofs.Made.{leave_goes_on, leave_some}
use Rattle.recorder_below.proofs.frames.leave.Goals as goal

pub leave_below-frame-requires-clause-in_range : goal.leave_below-frame-requires-clause-in_range
leave_below-frame-requires-clause-in_range c = few (world_of c.args.inputs) c.args.state.now c.args.thread System told.Leave c.requires

pub leave_below-frame-requires-clause-frame : goal.leave_below-frame-requires-clause-frame
leave_below-frame-requires-clause-frame c = leave_some (world_of c.args.inputs) c.args.state.now c.args.thread c.requires

pub go_on-requires : goal.go_on-requires
go_on-requires c = leave_goes_on (world_of c.args.inputs) c.args.state.now c.args.thread c.requires c.leave_below-frame.result c.leave_below-frame.new.self c.leave_below-frame.ensures.top c.leave_below-frame.ensures.left

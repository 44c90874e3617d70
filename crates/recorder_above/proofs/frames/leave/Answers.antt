use Rattle.marks.specs.declared.side.Side.TheVariants.{Replay}
use Rattle.recorder_threads.specs.declared.wants.Want.TheVariants as told
use Rattle.recorder_state.specs.Inputs.{world_of}
use Rattle.recorder_plain.proofs.Steps.{few}
use Rattle.recorder_above.proofs.Made.{leave_goes_on, leave_some, leave_stops}
use Rattle.recorder_above.proofs.frames.leave.Goals as goal

pub leave_above-requires-clause-in_range : goal.leave_above-requires-clause-in_range
leave_above-requires-clause-in_range c = few (world_of c.args.inputs) c.args.state.now c.args.thread Replay told.Leave c.requires

pub leave_above-requires-clause-frame : goal.leave_above-requires-clause-frame
leave_above-requires-clause-frame c = leave_some (world_of c.args.inputs) c.args.state.now c.args.thread c.requires

pub go_on-requires : goal.go_on-requires
go_on-requires c = leave_goes_on (world_of c.args.inputs) c.args.state.now c.args.thread c.requires c.in-Ok.field-0 c.leave_above.new.self c.in-Ok.ensures.top c.in-Ok.ensures.left

pub returns-in-Err-clause-stopped : goal.returns-in-Err-clause-stopped
returns-in-Err-clause-stopped c = leave_stops (world_of c.args.inputs) c.args.state.now c.args.thread c.requires c.in-Err.refusal c.stop_of.result c.leave_above.new.self c.stop_of.ensures c.in-Err.ensures.refused c.in-Err.ensures.unchanged

use Rattle.recorder_state.specs.Inputs.{world_of}
use Rattle.recorder_above.proofs.Made.{turn_goes_on}
use Rattle.recorder_above.proofs.others.turn.Goals as goal

pub go_on-requires : goal.go_on-requires
go_on-requires c = turn_goes_on (world_of c.args.inputs) c.args.state.now c.args.thread c.requires

use Rattle.recorder_state.specs.Inputs.{world_of}
use Rattle.recorder_calls.proofs.calls.call_said.Goals as goal

pub stop_full-requires : goal.stop_full-requires
stop_full-requires c = record { next = (world_of c.args.inputs, c.requires) }

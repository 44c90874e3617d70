use Rattle.recorder_state.specs.Inputs.{world_of}
use Rattle.recorder_state.proofs.state.RunState.go_on.Goals as goal

pub returns-clause-reached : goal.returns-clause-reached
returns-clause-reached c = c.keep.ensures.reached (world_of c.args.inputs) c.go_on_to-next.ensures.gone_on

use Rattle.recorder_state.specs.Inputs.{world_of}
use Rattle.recorder_state.proofs.state.RunState.end_step_known.Goals as goal

pub returns-clause-reached : goal.returns-clause-reached
returns-clause-reached c = c.keep.ensures.reached (world_of c.args.inputs) c.end_step_at.ensures.gone_on

use Rattle.recorder_state.specs.Inputs.{world_of}
use Rattle.recorder_state.proofs.Ending.{is_started}
use Rattle.recorder_state.proofs.state.RunState.end_step.Goals as goal

pub want-next-requires-clause-started : goal.want-next-requires-clause-started
want-next-requires-clause-started c = is_started (world_of c.args.inputs) c.args.self.now c.args.thread c.requires

pub end_step_known-requires-clause-next : goal.end_step_known-requires-clause-next
end_step_known-requires-clause-next c = c.want-next.ensures

use Rattle.std.proofs.Common.{◌-◌}
use Rattle.recorder_state.specs.Inputs.{world_of}
use Rattle.recorder_state.specs.Stands.{IsReached}
use Rattle.recorder.proofs.recording.run.Given as goal

abbrev pub invariant-steps : goal.invariant-steps
invariant-steps l = IsReached (world_of l.inputs) l.state

-- how many steps the budget leaves
abbrev pub decreases-steps : goal.decreases-steps
decreases-steps l = l.inputs.file.now.budget - l.state.steps

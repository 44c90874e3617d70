use Rattle.std.proofs.Common.{◌≡◌}
use Rattle.system_side.specs.Schedule.{wish_at}
use Rattle.recorder_system.specs.Stands.{ready_in}
use Rattle.recorder_state.specs.Inputs.{world_of}
use Rattle.recorder_state.specs.Turns.{IsTrying}
use Rattle.recorder_state.proofs.state.RunState.pick.Given as goal

-- none that was tried so far can step
abbrev pub invariant-loop-thread : goal.invariant-loop-thread
invariant-loop-thread l = record {
  trying : IsTrying (world_of l.inputs) l.self;
  wish : l.wish ≡ wish_at l.inputs.file.now.schedule l.self.steps;
  steps : l.self.steps ≡ l.fn.self.steps;
}

abbrev pub decreases-loop-thread : goal.decreases-loop-thread
decreases-loop-thread l = ready_in l.self.system.threads

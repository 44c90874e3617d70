use Rattle.std.proofs.Common.{◌≡◌, length}
use Rattle.recorder_state.specs.Inputs.{world_of}
use Rattle.recorder_end.specs.Stops.{IsStopping}
use Rattle.recorder_end.proofs.stops.stop_threads.Given as goal

-- the threads before it have their Stops
abbrev pub invariant-loop-thread : goal.invariant-loop-thread
invariant-loop-thread l = record {
  stopping : IsStopping (world_of l.inputs) l.state l.ending l.thread;
  count : length l.state.threads ≡ l.thread-end;
}

use Rattle.std.proofs.Common.{◌≡◌, ◌≤◌, length}
use Rattle.recorder_state.specs.Inputs.{world_of}
use Rattle.reference_recorder_end.specs.Ends.{AreFirstStops}
use Rattle.reference_recorder_end.proofs.stops.stops_of.Given as goal

-- the threads before it have their Stops
abbrev pub invariant-loop-thread : goal.invariant-loop-thread
invariant-loop-thread l = record {
  stops : AreFirstStops (world_of l.inputs) l.run l.threads l.thread l.stops.items;
  count : length l.threads ≡ l.thread-end;
  upto : l.thread ≤ l.thread-end;
}

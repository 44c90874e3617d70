use Rattle.std.proofs.Common.{take}
use Rattle.recorder_state.specs.Inputs.{world_of}
use Rattle.reference_recorder_steps.specs.Reads.{AreRead}
use Rattle.reference_recorder_steps.proofs.reads.read_all.Given as goal

abbrev pub invariant-loop-range : goal.invariant-loop-range
invariant-loop-range l = AreRead (world_of l.inputs) l.marks (take l.range-index l.ranges) l.pieces.items

use Rattle.recorder_state.specs.Inputs.{world_of}
use Rattle.reference_recorder_spaces.proofs.Seen.{StandsForOldest}
use Rattle.reference_recorder_spaces.proofs.after.spaces_after.Given as goal

-- memory stands for the oldest marks
abbrev pub invariant-loop-mark : goal.invariant-loop-mark
invariant-loop-mark l = StandsForOldest (world_of l.inputs) l.marks l.mark-index l.spaces

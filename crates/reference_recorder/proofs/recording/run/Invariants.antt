use Rattle.std.proofs.Common.{◌-◌, length}
use Rattle.recorder_state.specs.Inputs.{world_of}
use Rattle.reference_recorder_threads.specs.Telling.{IsPast}
use Rattle.reference_recorder.proofs.recording.run.Given as goal

-- a run comes to the marks
abbrev pub invariant-steps : goal.invariant-steps
invariant-steps l = IsPast (world_of l.inputs) l.marks.items

-- how many steps the budget leaves
abbrev pub decreases-steps : goal.decreases-steps
decreases-steps l = l.inputs.file.now.budget - length l.marks.items

use Rattle.recorder_state.specs.Inputs.{world_of}
use Rattle.recorder_threads.specs.Threads.{AreThreadsOf}
use Rattle.reference_recorder_threads.specs.Telling.{IsPast}
use Rattle.reference_recorder_threads.proofs.Oldest.{oldest}
use Rattle.reference_recorder_threads.proofs.after.threads_after.Given as goal

-- the threads are told of the oldest marks
abbrev pub invariant-loop-mark : goal.invariant-loop-mark
invariant-loop-mark l = (p : IsPast (world_of l.inputs) l.marks) → AreThreadsOf (world_of l.inputs) (oldest l.mark-index p.run) l.threads

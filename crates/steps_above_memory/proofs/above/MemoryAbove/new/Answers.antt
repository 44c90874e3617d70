use Rattle.steps_above_memory.proofs.Begins.{begins}
use Rattle.steps_above_memory.proofs.above.MemoryAbove.new.Goals as goal

pub returns-clause-begins : goal.returns-clause-begins
returns-clause-begins c = begins _

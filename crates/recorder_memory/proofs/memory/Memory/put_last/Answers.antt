use Rattle.recorder_memory.proofs.Marking.{with_spaces}
use Rattle.recorder_memory.proofs.memory.Memory.put_last.Goals as goal

pub returns-in-Err-clause-unchanged : goal.returns-in-Err-clause-unchanged
returns-in-Err-clause-unchanged c = with_spaces c.args.self.now c.put_up.new.spaces _ c.in-Err.ensures.unchanged

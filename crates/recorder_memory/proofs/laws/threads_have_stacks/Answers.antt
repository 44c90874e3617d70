use Rattle.recorder_memory.proofs.Quiet.{have_stacks}
use Rattle.recorder_memory.proofs.laws.threads_have_stacks.Goals as goal

pub returns : goal.returns
returns c = have_stacks

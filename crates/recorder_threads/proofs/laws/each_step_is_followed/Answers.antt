use Rattle.recorder_threads.proofs.Followed.{each_followed}
use Rattle.recorder_threads.proofs.laws.each_step_is_followed.Goals as goal

pub returns : goal.returns
returns c = each_followed

use Rattle.lockset_check_threads.proofs.Touching.{two_threads_touch}
use Rattle.lockset_check_threads.proofs.scenes.two_threads_touch.Goals as goal

pub returns : goal.returns
returns c = two_threads_touch

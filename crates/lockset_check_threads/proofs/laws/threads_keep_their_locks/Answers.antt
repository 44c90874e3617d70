use Rattle.lockset_check_threads.proofs.Threads.{threads_keep_their_locks}
use Rattle.lockset_check_threads.proofs.laws.threads_keep_their_locks.Goals as goal

pub returns : goal.returns
returns c = threads_keep_their_locks

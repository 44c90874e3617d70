use Rattle.lockset_check_threads.proofs.Computed.{some_locks_are_kept}
use Rattle.lockset_check_threads.proofs.scenes.some_locks_are_kept.Goals as goal

pub returns : goal.returns
returns c = some_locks_are_kept

use Rattle.lockset_check_threads.proofs.Computed.{mutexes_must_be_free}
use Rattle.lockset_check_threads.proofs.scenes.mutexes_must_be_free.Goals as goal

pub returns : goal.returns
returns c = mutexes_must_be_free

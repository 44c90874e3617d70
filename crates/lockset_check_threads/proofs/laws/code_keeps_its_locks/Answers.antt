use Rattle.lockset_check_threads.proofs.Together.{code_keeps_locks}
use Rattle.lockset_check_threads.proofs.laws.code_keeps_its_locks.Goals as goal

pub returns : goal.returns
returns c r s runs g found code makes = code_keeps_locks r s runs g found code makes

use Rattle.lockset_check_threads.proofs.Together.{accesses_are_ordered}
use Rattle.lockset_check_threads.proofs.laws.accesses_are_ordered.Goals as goal

pub returns : goal.returns
returns c r runs behaviours keeps = accesses_are_ordered r runs behaviours keeps

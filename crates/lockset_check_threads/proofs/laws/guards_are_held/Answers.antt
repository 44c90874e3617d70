use Rattle.lockset_check_threads.proofs.Together.{guards_are_held}
use Rattle.lockset_check_threads.proofs.laws.guards_are_held.Goals as goal

pub returns : goal.returns
returns c r runs behaviours keeps = guards_are_held r runs behaviours keeps

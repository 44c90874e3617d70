use Rattle.lockset_check_laws.proofs.laws.exclusive_locks_are_held.Goals as goal
use Rattle.lockset_check_laws.proofs.Held.{taken_is_held, takes_free}

pub returns : goal.returns
returns c l past x q = record { holds = taken_is_held l past x q; takes = takes_free l past x q }

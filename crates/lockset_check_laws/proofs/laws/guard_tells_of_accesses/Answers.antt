use Rattle.lockset_check_laws.proofs.laws.guard_tells_of_accesses.Goals as goal
use Rattle.lockset_check_laws.proofs.Order.{guard_tells}

pub returns : goal.returns
returns c l guard past g a i o k u e t ne h = guard_tells l guard past g a i o k u e t ne h

use Rattle.lockset_check_laws.proofs.laws.guarded_accesses_are_ordered.Goals as goal
use Rattle.lockset_check_laws.proofs.Order.{ordered}

pub returns : goal.returns
returns c l guard past m g a i o k u v e ne = ordered l guard past m g a i o k u v e ne

use Rattle.lockset_check_laws.proofs.Wants.{held_wants}
use Rattle.lockset_check_laws.proofs.laws.held_wants_are_enough.Goals as goal

pub returns : goal.returns
returns c l guard past h = held_wants l guard past h

use Rattle.lockset_check_sources.proofs.Tables.{constants_are_of_kinds}
use Rattle.lockset_check_sources.proofs.laws.constants_are_of_kinds.Goals as goal

pub returns : goal.returns
returns c = constants_are_of_kinds

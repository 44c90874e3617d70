use Rattle.lockset_check_sources.proofs.Annotations.{holds_are_fit}
use Rattle.lockset_check_sources.proofs.laws.holds_are_fit.Goals as goal

pub returns : goal.returns
returns c = holds_are_fit

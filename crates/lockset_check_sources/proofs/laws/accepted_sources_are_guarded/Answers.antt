use Rattle.lockset_check_sources.proofs.Accepted.{accepted_sources_are_guarded}
use Rattle.lockset_check_sources.proofs.laws.accepted_sources_are_guarded.Goals as goal

pub returns : goal.returns
returns c = accepted_sources_are_guarded

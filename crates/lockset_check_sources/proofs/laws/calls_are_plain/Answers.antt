use Rattle.lockset_check_sources.proofs.Programs.{calls_are_plain}
use Rattle.lockset_check_sources.proofs.laws.calls_are_plain.Goals as goal

pub returns : goal.returns
returns c = calls_are_plain

use Rattle.isolation_check_sources.proofs.Accepted.{placeable}
use Rattle.isolation_check_sources.proofs.laws.accepted_sources_can_be_placed.Goals as goal

pub returns : goal.returns
returns c =
    placeable c.strings_are_spelled.ensures c.typed_programs_fit.ensures c.typed_globals_fit.ensures.small c.typed_globals_fit.ensures.aligned

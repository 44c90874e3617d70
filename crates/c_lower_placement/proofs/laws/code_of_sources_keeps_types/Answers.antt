use Rattle.c_lower_placement.proofs.Typed.{keeps_types}
use Rattle.c_lower_placement.proofs.laws.code_of_sources_keeps_types.Goals as goal

pub returns : goal.returns
returns c = keeps_types

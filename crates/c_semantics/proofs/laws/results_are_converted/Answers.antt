use Rattle.c_semantics.proofs.TypedFunctions.{results_are_converted}
use Rattle.c_semantics.proofs.laws.results_are_converted.Goals as goal

pub returns : goal.returns
returns c = results_are_converted

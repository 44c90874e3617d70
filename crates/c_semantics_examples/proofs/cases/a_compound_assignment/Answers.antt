use Rattle.c_semantics_examples.proofs.Computed.{compounds}
use Rattle.c_semantics_examples.proofs.cases.a_compound_assignment.Goals as goal

pub returns : goal.returns
returns c = compounds

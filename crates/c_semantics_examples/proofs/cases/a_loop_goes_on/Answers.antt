use Rattle.c_semantics_examples.proofs.Computed.{loops}
use Rattle.c_semantics_examples.proofs.cases.a_loop_goes_on.Goals as goal

pub returns : goal.returns
returns c = loops

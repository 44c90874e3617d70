use Rattle.c_semantics_examples.proofs.Computed.{before_its_array}
use Rattle.c_semantics_examples.proofs.cases.a_subscript_before_its_array.Goals as goal

pub returns : goal.returns
returns c = before_its_array

use Rattle.c_semantics_examples.proofs.Computed.{crosses, other_arguments, seen_above}
use Rattle.c_semantics_examples.proofs.cases.a_return_has_its_arguments.Goals as goal

pub returns-clause-split : goal.returns-clause-split
returns-clause-split c = crosses

pub returns-clause-others : goal.returns-clause-others
returns-clause-others c = other_arguments

pub returns-clause-above : goal.returns-clause-above
returns-clause-above c = seen_above

use Rattle.c_semantics_examples.proofs.Computed.{back_above, back_below, back_other_arguments, back_other_result}
use Rattle.c_semantics_examples.proofs.cases.code_below_calls_back.Goals as goal

pub returns-clause-above : goal.returns-clause-above
returns-clause-above c = back_above

pub returns-clause-below : goal.returns-clause-below
returns-clause-below c = back_below

pub returns-clause-other_arguments : goal.returns-clause-other_arguments
returns-clause-other_arguments c = back_other_arguments

pub returns-clause-other_result : goal.returns-clause-other_result
returns-clause-other_result c = back_other_result

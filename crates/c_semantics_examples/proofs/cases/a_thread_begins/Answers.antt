use Rattle.c_semantics_examples.proofs.Computed.{thread_above, thread_no_up, thread_other_type, thread_no_function}
use Rattle.c_semantics_examples.proofs.cases.a_thread_begins.Goals as goal

pub returns-clause-above : goal.returns-clause-above
returns-clause-above c = thread_above

pub returns-clause-no_up : goal.returns-clause-no_up
returns-clause-no_up c = thread_no_up

pub returns-clause-other_type : goal.returns-clause-other_type
returns-clause-other_type c = thread_other_type

pub returns-clause-no_function : goal.returns-clause-no_function
returns-clause-no_function c = thread_no_function

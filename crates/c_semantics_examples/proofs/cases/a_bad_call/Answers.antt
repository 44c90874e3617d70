use Rattle.c_semantics_examples.proofs.Computed.{bad_no_function, bad_other_type, bad_of_its_type, bad_goes_on}
use Rattle.c_semantics_examples.proofs.cases.a_bad_call.Goals as goal

pub returns-clause-no_function : goal.returns-clause-no_function
returns-clause-no_function c = bad_no_function

pub returns-clause-other_type : goal.returns-clause-other_type
returns-clause-other_type c = bad_other_type

pub returns-clause-of_its_type : goal.returns-clause-of_its_type
returns-clause-of_its_type c = bad_of_its_type

pub returns-clause-goes_on : goal.returns-clause-goes_on
returns-clause-goes_on c = bad_goes_on

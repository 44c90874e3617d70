use Rattle.c_semantics_examples.proofs.Computed.{divisor_zero, divisor_two, divisor_no_fault, divisor_needless}
use Rattle.c_semantics_examples.proofs.cases.a_zero_divisor.Goals as goal

pub returns-clause-zero : goal.returns-clause-zero
returns-clause-zero c = divisor_zero

pub returns-clause-two : goal.returns-clause-two
returns-clause-two c = divisor_two

pub returns-clause-no_fault : goal.returns-clause-no_fault
returns-clause-no_fault c = divisor_no_fault

pub returns-clause-needless : goal.returns-clause-needless
returns-clause-needless c = divisor_needless

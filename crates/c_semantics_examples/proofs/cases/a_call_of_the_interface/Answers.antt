use Rattle.c_semantics_examples.proofs.Computed.{split, above, too_large}
use Rattle.c_semantics_examples.proofs.cases.a_call_of_the_interface.Goals as goal

pub returns-clause-split : goal.returns-clause-split
returns-clause-split c = split

pub returns-clause-above : goal.returns-clause-above
returns-clause-above c = above

pub returns-clause-too_large : goal.returns-clause-too_large
returns-clause-too_large c = too_large

use Rattle.c_semantics_examples.proofs.Computed.{two_and_three, others, cut_short, in_order}
use Rattle.c_semantics_examples.proofs.cases.loads_are_free.Goals as goal

pub returns-clause-two_and_three : goal.returns-clause-two_and_three
returns-clause-two_and_three c = two_and_three

pub returns-clause-others : goal.returns-clause-others
returns-clause-others c = others

pub returns-clause-cut_short : goal.returns-clause-cut_short
returns-clause-cut_short c = cut_short

pub returns-clause-in_order : goal.returns-clause-in_order
returns-clause-in_order c = in_order

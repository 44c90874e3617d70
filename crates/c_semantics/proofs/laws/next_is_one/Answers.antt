use Rattle.c_semantics.specs.Calls.{behaviour, thread_above, thread_behaviour}
use Rattle.c_semantics.proofs.CallPrefixes.{above_cut, behaviour_cut, thread_cut}
use Rattle.c_semantics.proofs.Nexts.{next, all_nexts, next_passes_ends, nexts}
use Rattle.c_semantics.proofs.laws.next_is_one.Goals as goal

pub returns-clause-calls : goal.returns-clause-calls
returns-clause-calls c r s side f args = nexts (behaviour r s side f args) (behaviour_cut next all_nexts next_passes_ends r s side f args)

pub returns-clause-threads : goal.returns-clause-threads
returns-clause-threads c s t address args = nexts (thread_behaviour s t address args) (thread_cut next all_nexts next_passes_ends s t address args)

pub returns-clause-above : goal.returns-clause-above
returns-clause-above c s = nexts (thread_above s) (above_cut next all_nexts s)

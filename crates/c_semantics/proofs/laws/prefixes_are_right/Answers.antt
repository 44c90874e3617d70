use Rattle.c_semantics.specs.Calls.{behaviour, thread_above, thread_behaviour}
use Rattle.c_semantics.proofs.CallPrefixes.{above_cut, behaviour_cut, thread_cut}
use Rattle.c_semantics.proofs.Prefixes.{prefix_passes_ends, prefix, all_prefixes, prefixes}
use Rattle.c_semantics.proofs.laws.prefixes_are_right.Goals as goal

pub returns-clause-calls : goal.returns-clause-calls
returns-clause-calls c r s side f args = prefixes (behaviour r s side f args) (behaviour_cut prefix all_prefixes prefix_passes_ends r s side f args)

pub returns-clause-threads : goal.returns-clause-threads
returns-clause-threads c s t address args = prefixes (thread_behaviour s t address args) (thread_cut prefix all_prefixes prefix_passes_ends s t address args)

pub returns-clause-above : goal.returns-clause-above
returns-clause-above c s = prefixes (thread_above s) (above_cut prefix all_prefixes s)

use Rattle.c_semantics.specs.Calls.{behaviour, thread_behaviour}
use Rattle.c_semantics.proofs.CallPrefixes.{behaviour_cut, thread_cut}
use Rattle.c_semantics.proofs.Overs.{over_passes_ends, over, all_overs, overs}
use Rattle.c_semantics.proofs.laws.end_is_last.Goals as goal

pub returns-clause-calls : goal.returns-clause-calls
returns-clause-calls c r s side f args = overs (behaviour r s side f args) (behaviour_cut over all_overs over_passes_ends r s side f args)

pub returns-clause-threads : goal.returns-clause-threads
returns-clause-threads c s t address args = overs (thread_behaviour s t address args) (thread_cut over all_overs over_passes_ends s t address args)

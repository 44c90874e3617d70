use Rattle.c_semantics.specs.Calls.{thread_above, thread_behaviour}
use Rattle.c_semantics.proofs.CallPrefixes.{above_cut}
use Rattle.c_semantics.proofs.CutCalls.{threads_are_right}
use Rattle.c_semantics.proofs.Nexts.{next, all_nexts, nexts}
use Rattle.c_semantics.proofs.Parts.{one_above}
use Rattle.c_semantics.proofs.laws.want_above_is_one.Goals as goal

pub returns : goal.returns
returns c s converted t u address other args bs =
    one_above (thread_behaviour s t address args) (thread_behaviour s u other bs) (thread_above s) (threads_are_right s converted t address args) (threads_are_right s converted u other bs) (nexts (thread_above s) (above_cut next all_nexts s))

use Rattle.c_semantics.proofs.CutCalls.{calls_are_right, threads_are_right}
use Rattle.c_semantics.proofs.laws.replay_part_is_right_above.Goals as goal

pub returns-clause-calls : goal.returns-clause-calls
returns-clause-calls c = calls_are_right

pub returns-clause-threads : goal.returns-clause-threads
returns-clause-threads c = threads_are_right

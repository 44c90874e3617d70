use Rattle.std.proofs.Common.{◌≡◌, true, take}
use Rattle.replay_runs.specs.Threads.{same_lists}
use Rattle.reference_recorder_calls.proofs.returns.same_pieces.Given as goal

abbrev pub invariant-loop-at : goal.invariant-loop-at
invariant-loop-at l = same_lists (take l.at l.a) (take l.at l.b) ≡ true

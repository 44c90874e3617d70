use Rattle.std.proofs.Common.{◌≡◌, take}
use Rattle.system_side.proofs.lists.Schedule.to_vec.Given as goal

abbrev pub invariant-loop-place : goal.invariant-loop-place
invariant-loop-place l = l.turns.items ≡ take l.place l.self

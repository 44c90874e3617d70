use Rattle.std.proofs.Common.{◌≡◌, take}
use Rattle.system_side.proofs.lists.Schedule.from_slice.Given as goal

abbrev pub invariant-loop-thread : goal.invariant-loop-thread
invariant-loop-thread l = l.schedule ≡ take l.thread-index l.turns

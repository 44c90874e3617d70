use Rattle.std.proofs.Common.{◌≡◌, length, take}
use Rattle.steps_above_memory.specs.Returns.{WasToldAccesses}
use Rattle.steps_above_memory.proofs.returns.accessed_all.Given as goal

abbrev pub invariant-loop-range : goal.invariant-loop-range
invariant-loop-range l = record {
  told : WasToldAccesses l.thread l.write (take l.range-index l.ranges) l.fn.watch l.watch;
  threads : length l.watch.rows ≡ length l.fn.watch.rows;
  events : l.watch.events ≡ l.fn.watch.events;
}

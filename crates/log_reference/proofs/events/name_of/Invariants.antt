use Rattle.std.proofs.Common.{◌≡◌, ◌≤◌, take}
use Rattle.log_closure.specs.Events.{of_thread}
use Rattle.log_reference.proofs.events.name_of.Given as goal

abbrev pub invariant-loop-other : goal.invariant-loop-other
invariant-loop-other l = record {
  below : l.index ≤ l.other-index;
  count : l.index ≡ of_thread l.entry.thread (take l.other-index l.before);
}

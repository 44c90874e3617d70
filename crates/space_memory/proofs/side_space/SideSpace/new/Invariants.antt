use Rattle.std.proofs.Common.{◌≡◌, ◌≤◌, map}
use Rattle.std.specs.List.{range_with_len}
use Rattle.memory_map.specs.declared.areas.TheConstants.{THREADS}
use Rattle.space_memory.specs.Sides.{fresh_stack}
use Rattle.space_memory.proofs.side_space.SideSpace.new.Given as goal

-- the stacks of the threads so far are there
abbrev pub invariant-loop-thread : goal.invariant-loop-thread
invariant-loop-thread l = record {
  stacks : l.stacks.items ≡ map (fresh_stack l.stacks_from) (range_with_len 0 l.thread);
  threads : l.thread ≤ THREADS;
}

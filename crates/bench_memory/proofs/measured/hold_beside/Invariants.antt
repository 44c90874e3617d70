use Rattle.std.proofs.Common.{◌≡◌, length}
use Rattle.memory_map.specs.declared.areas.TheConstants.{THREADS}
use Rattle.bench_memory.proofs.measured.hold_beside.Given as goal

abbrev pub invariant-loop-thread : goal.invariant-loop-thread
invariant-loop-thread l = record { all : length l.memory.held.depths ≡ THREADS }

use Rattle.std.proofs.Common.{◌≤◌, ◌*◌, vec_len}
use Rattle.test_races.proofs.races.after_reads.Given as goal

abbrev pub invariant-loop-thread : goal.invariant-loop-thread
invariant-loop-thread l = vec_len l.steps ≤ 2 * l.thread

use Rattle.std.proofs.Common.{ℕ, ◌<◌, ◌≤◌}
use Rattle.race_watch.specs.Tables.{at, HasEpoch}
use Rattle.race_watch.proofs.tables.Tables.is_quiet_of_few.Given as goal

abbrev pub invariant-loop-thread : goal.invariant-loop-thread
invariant-loop-thread l = (x u : ℕ) → l.part.from ≤ x → x < l.part.to → u < l.thread → HasEpoch l.tested (at l.self) x u → ⊥

use Rattle.std.proofs.Common.{◌≡◌, ℕ, ◌<◌, Some}
use Rattle.race_watch.specs.Cells.{cell_of}
use Rattle.race_watch.specs.Tables.{at, HasEpoch}
use Rattle.race_watch.proofs.tables.Tables.first_at.Given as goal

abbrev pub invariant-loop-thread : goal.invariant-loop-thread
invariant-loop-thread l = (x u : ℕ) → cell_of x ≡ Some l.cell → u < l.thread → HasEpoch l.tested (at l.self) x u → ⊥

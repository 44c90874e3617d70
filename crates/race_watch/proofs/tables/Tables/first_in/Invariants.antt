use Rattle.std.proofs.Common.{ℕ, ◌<◌, ◌≤◌}
use Rattle.race_watch.specs.Tables.{at, HasEpoch}
use Rattle.race_watch.proofs.tables.Tables.first_in.Given as goal

abbrev pub invariant-loop-addr : goal.invariant-loop-addr
invariant-loop-addr l = (x u : ℕ) → l.part.from ≤ x → x < l.addr → HasEpoch l.tested (at l.self) x u → ⊥

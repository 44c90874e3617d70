use Rattle.std.proofs.Common.{◌≡◌, length}
use Rattle.bench_races.proofs.watch.over_events.Given as goal

abbrev pub invariant-loop-round : goal.invariant-loop-round
invariant-loop-round l = (l.watch.events ≡ l.round) × (length l.watch.rows ≡ 8)

use Rattle.std.proofs.Common.{◌≡◌, length}
use Rattle.bench_races.proofs.clocks.over_clocks.Given as goal

abbrev pub invariant-loop-round : goal.invariant-loop-round
invariant-loop-round l = (l.clocks.events ≡ l.round) × (length l.clocks.threads ≡ 8)

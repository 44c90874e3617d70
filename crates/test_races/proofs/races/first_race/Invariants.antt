use Rattle.std.proofs.Common.{◌≡◌, ◌≤◌, length}
use Rattle.test_races.proofs.races.first_race.Given as goal

abbrev pub invariant-loop-step : goal.invariant-loop-step
invariant-loop-step l = (l.watch.events ≤ l.step-index) × (length l.watch.rows ≡ 32)

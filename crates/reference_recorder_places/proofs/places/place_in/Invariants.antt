use Rattle.std.proofs.Common.{ℕ, ◌+◌, ◌*◌, ◌≤◌}
use Rattle.replay_runs.specs.Pool.{Fits}
use Rattle.reference_recorder_places.proofs.places.place_in.Given as goal

-- no place before this one fits
abbrev pub invariant-loop-step : goal.invariant-loop-step
invariant-loop-step l = (x : ℕ) → Fits l.pool l.blocks l.size x → l.pool + l.step * 16 ≤ x

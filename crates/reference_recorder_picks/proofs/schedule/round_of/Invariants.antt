use Rattle.std.proofs.Common.{◌≡◌, ◌≤◌, ◌*◌, take}
use Rattle.system_side.specs.Schedule.{round}
use Rattle.reference_recorder_picks.proofs.schedule.round_of.Given as goal

-- the steps of the turns so far
abbrev pub invariant-loop-turn : goal.invariant-loop-turn
invariant-loop-turn l = record { is : l.steps ≡ round (take l.turn l.schedule); few : l.steps ≤ 4294967296 * l.turn }

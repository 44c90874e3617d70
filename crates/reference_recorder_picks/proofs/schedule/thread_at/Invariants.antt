use Rattle.std.proofs.Common.{◌≡◌, drop}
use Rattle.system_side.specs.Schedule.{entry}
use Rattle.reference_recorder_picks.proofs.schedule.thread_at.Given as goal

-- the place is one of the turns that are left
abbrev pub invariant-loop-turn : goal.invariant-loop-turn
invariant-loop-turn l = entry l.schedule l.fn.place ≡ entry (drop l.turn l.schedule) l.left

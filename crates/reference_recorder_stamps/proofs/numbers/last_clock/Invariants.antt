use Rattle.std.proofs.Common.{◌≡◌, take}
use Rattle.replay_runs.specs.Runs.{last_clock, new_events}
use Rattle.reference_recorder_marks.specs.Marks.{past}
use Rattle.reference_recorder_stamps.specs.Links.{link_of}
use Rattle.reference_recorder_stamps.proofs.numbers.last_clock.Given as goal

abbrev pub invariant-loop-mark : goal.invariant-loop-mark
invariant-loop-mark l = l.clock ≡ last_clock (new_events (link_of l.link) (past (take l.mark-index l.marks)))

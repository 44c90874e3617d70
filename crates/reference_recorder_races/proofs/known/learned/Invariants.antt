use Rattle.std.proofs.Common.{◌≡◌, max, drop}
use Rattle.replay_runs.specs.Known.{known, learned_keys}
use Rattle.whole_runs.specs.Sides.{seen}
use Rattle.reference_recorder_marks.specs.Marks.{past}
use Rattle.reference_recorder_races.specs.Told.{AreTold}
use Rattle.reference_recorder_races.proofs.known.learned.Given as goal

abbrev pub invariant-loop-key : goal.invariant-loop-key
invariant-loop-key l = AreTold l.thread l.before l.told → max (learned_keys (known (seen (past l.before))) (drop l.key-index l.keys) l.thread) l.known ≡ max (learned_keys (known (seen (past l.before))) l.keys l.thread) l.initial.known

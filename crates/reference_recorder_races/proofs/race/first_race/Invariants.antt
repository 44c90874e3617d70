use Rattle.whole_runs.specs.Sides.{seen}
use Rattle.reference_recorder_marks.specs.Marks.{past}
use Rattle.reference_recorder_races.specs.Races.{IsFirstBelow, races_with}
use Rattle.reference_recorder_races.proofs.race.first_race.Given as goal

abbrev pub invariant-loop-other : goal.invariant-loop-other
invariant-loop-other l = IsFirstBelow (races_with (seen (past l.marks)) l.thread l.tested) l.other l.best

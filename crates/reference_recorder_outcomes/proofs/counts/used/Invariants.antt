use Rattle.std.proofs.Common.{◌≡◌, ◌≤◌, take}
use Rattle.whole_runs.specs.Outcomes.{used as used_in}
use Rattle.reference_recorder_marks.specs.Marks.{past}
use Rattle.reference_recorder_outcomes.proofs.counts.used.Given as goal

abbrev pub invariant-loop-mark : goal.invariant-loop-mark
invariant-loop-mark l = record {
  is : l.count ≡ used_in l.func (past (take l.mark-index l.marks));
  few : l.count ≤ l.mark-index;
}

use Rattle.std.proofs.Common.{subst}
use Rattle.replay_runs.specs.Runs.{OfThread}
use Rattle.replay_runs.specs.Known.{known}
use Rattle.whole_runs.specs.Sides.{seen}
use Rattle.reference_recorder_marks.specs.Marks.{past}
use Rattle.reference_recorder_races.specs.Least.{IsLeastAt}
use Rattle.reference_recorder_races.specs.Hits.{meets_any}
use Rattle.reference_recorder_races.proofs.Firsts.{less_met}
use Rattle.reference_recorder_races.proofs.race.first_with.Goals as goal

pub returns-in-None : goal.returns-in-None
returns-in-None c = less_met c.args.tested c.args.other (known (seen (past c.args.marks.now)) (OfThread c.args.thread) c.args.other) (seen (past c.args.marks.now)) (subst (IsLeastAt (meets_any c.args.tested c.args.other 0 (seen (past c.args.marks.now)))) c.in-None.is c.first_met.ensures)

pub returns-in_ok-known-in-Some : goal.returns-in_ok-known-in-Some
returns-in_ok-known-in-Some c = subst (λ n. IsLeastAt (meets_any c.args.tested c.args.other n (seen (past c.args.marks.now))) c.first_met-in-Some.result) c.in_ok-known-in-Some.ensures c.first_met-in-Some.ensures

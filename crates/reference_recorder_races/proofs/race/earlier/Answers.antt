use Rattle.std.proofs.Common.{subst}
use Rattle.reference_recorder_races.specs.Least.{IsLeastAt}
use Rattle.reference_recorder_races.proofs.Firsts.{none_more}
use Rattle.reference_recorder_races.proofs.race.earlier.Goals as goal

pub returns-in-None : goal.returns-in-None
returns-in-None c = λ at h k. none_more at c.args.other c.args.best h (subst (IsLeastAt (at c.args.other)) c.in-None.is k)

pub returns-in-Some : goal.returns-in-Some
returns-in-Some c = λ at h k. c.first_of.ensures at h (subst (IsLeastAt (at c.args.other)) c.in-Some.is k)

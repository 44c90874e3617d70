use Rattle.std.proofs.Common.{subst}
use Rattle.reference_recorder_races.specs.Least.{IsLeastAt}
use Rattle.reference_recorder_races.proofs.Leasts.{least_right}
use Rattle.reference_recorder_races.proofs.least.least.Goals as goal

pub returns-in-None : goal.returns-in-None
returns-in-None c = λ f g h k. least_right f g c.args.b (subst (IsLeastAt f) c.in-None.is h) k

pub returns-in-Some : goal.returns-in-Some
returns-in-Some c = λ f g h k. c.least_with.ensures f g (subst (IsLeastAt f) c.in-Some.is h) k

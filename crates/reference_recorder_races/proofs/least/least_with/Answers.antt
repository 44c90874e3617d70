use Rattle.std.proofs.Common.{subst}
use Rattle.reference_recorder_races.specs.Least.{IsLeastAt}
use Rattle.reference_recorder_races.proofs.Leasts.{least_both, least_left}
use Rattle.reference_recorder_races.proofs.least.least_with.Goals as goal

pub returns-in-None : goal.returns-in-None
returns-in-None c = λ f g h k. least_left f g c.args.a h (subst (IsLeastAt g) c.in-None.is k)

pub returns-in-Some : goal.returns-in-Some
returns-in-Some c = λ f g h k. least_both f g c.args.a c.in-Some.other c.min.result c.min.ensures h (subst (IsLeastAt g) c.in-Some.is k)

use Rattle.std.proofs.Common.{subst}
use Rattle.reference_recorder_races.specs.Races.{IsFirstBelow}
use Rattle.reference_recorder_races.proofs.Firsts.{first_more}
use Rattle.reference_recorder_races.proofs.race.first_of.Goals as goal

pub returns-in-None : goal.returns-in-None
returns-in-None c = λ at h k. first_more at c.args.other c.args.address (subst (IsFirstBelow at c.args.other) c.in-None.is h) k

pub returns-in-Some : goal.returns-in-Some
returns-in-Some c = λ at h k. c.lesser.ensures at (subst (IsFirstBelow at c.args.other) c.in-Some.is h) k

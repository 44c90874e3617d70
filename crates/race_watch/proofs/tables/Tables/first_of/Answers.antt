use Rattle.race_watch.specs.Tables.{at, HasEpoch}
use Rattle.race_watch.proofs.Firsts.{first_part}
use Rattle.race_watch.proofs.tables.Tables.first_of.Goals as goal

pub returns-in-Some : goal.returns-in-Some
returns-in-Some c = first_part (HasEpoch c.args.tested.now (at c.args.self.now)) c.args.tested.now.range c.args.area c.in-Some.part c.first_in.result c.in-Some.ensures c.requires.small c.first_in.ensures

pub returns-in-None : goal.returns-in-None
returns-in-None c = λ x u i q. c.in-None.ensures x i q.1 q.2

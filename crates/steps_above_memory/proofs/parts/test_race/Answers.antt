use Rattle.std.proofs.Common.{subst, arith}
use Rattle.race_watch.specs.Stands.{AnswersBy}
use Rattle.steps_above_memory.proofs.Calling.{foreign_range, raced_range}
use Rattle.steps_above_memory.proofs.parts.test_race.Goals as goal

pub returns-in-Ok-clause-unraced : goal.returns-in-Ok-clause-unraced
returns-in-Ok-clause-unraced c = subst (AnswersBy c.args.watch.now c.args.thread c.args.range c.args.write) c.in-Ok.is c.test.ensures

pub returns-in-Some-clause-refused : goal.returns-in-Some-clause-refused
returns-in-Some-clause-refused c = foreign_range c.args.thread c.args.write c.args.range c.args.watch.now (omega arith) c.in-Some.addr c.of.result c.in-Some.ensures c.of.ensures

pub returns-in-None-clause-refused : goal.returns-in-None-clause-refused
returns-in-None-clause-refused c = raced_range c.args.thread c.args.write c.args.range c.args.watch.now (omega arith) c.in-Err.error c.by.result c.in-None.ensures
    (subst (AnswersBy c.args.watch.now c.args.thread c.args.range c.args.write) c.in-Err.is c.test.ensures) c.by.ensures

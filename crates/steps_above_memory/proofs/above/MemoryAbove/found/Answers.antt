use Rattle.std.proofs.Common.{sym, subst, arith}
use Rattle.race_watch.specs.Stands.{AnswersBy}
use Rattle.steps_above_memory.specs.Steps.{FindsRefusal}
use Rattle.steps_above_memory.proofs.Ranges.{foreign_as, raced, unraced_refusal}
use Rattle.steps_above_memory.proofs.above.MemoryAbove.found.Goals as goal

pub returns-in-OtherSpace : goal.returns-in-OtherSpace
returns-in-OtherSpace c = subst (FindsRefusal c.args.self.now c.args.thread c.args.write c.args.range c.args.refusal) (sym c.of.ensures)
    (foreign_as c.args.self.now c.args.thread c.args.write c.args.range (omega arith) c.args.refusal c.in-OtherSpace.addr c.in-OtherSpace.is)

pub returns-in-Ok : goal.returns-in-Ok
returns-in-Ok c = subst (FindsRefusal c.args.self.now c.args.thread c.args.write c.args.range c.args.refusal) (sym c.of-in-Ok.ensures)
    (unraced_refusal c.args.self.now c.args.thread c.args.write c.args.range (omega arith) c.args.refusal (subst (AnswersBy c.args.self.now.watch c.args.thread c.args.range c.args.write) c.in-Ok.is c.test.ensures))

pub returns-in-Err : goal.returns-in-Err
returns-in-Err c = subst (FindsRefusal c.args.self.now c.args.thread c.args.write c.args.range c.args.refusal) (sym c.by.ensures)
    (raced c.args.self.now c.args.thread c.args.write c.args.range (omega arith) c.args.refusal c.in-Err.error c.in_default.not-OtherSpace
    (subst (AnswersBy c.args.self.now.watch c.args.thread c.args.range c.args.write) c.in-Err.is c.test.ensures))

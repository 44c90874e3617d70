use Rattle.std.proofs.Common.{refl}
use Rattle.steps_above_memory.proofs.Returning.{return_made, return_refused, return_taken}
use Rattle.steps_above_memory.proofs.above.MemoryAbove.release.Goals as goal

pub returns-in-Err-clause-refused : goal.returns-in-Err-clause-refused
returns-in-Err-clause-refused c = return_refused c.args.self.now c.args.thread c.requires.in_range c.args.used.now c.args.commit c.in-Err.refusal c.of.result ((c.release.ensures.refused c.in-Err.refusal).0 c.in-Err.is) c.of.ensures

pub returns-in-Ok-clause-passes : goal.returns-in-Ok-clause-passes
returns-in-Ok-clause-passes c =
    let given = c.in_default.ensures.released.0 refl in
    return_taken c.args.self.now c.args.thread c.requires.in_range c.args.used.now c.args.commit given.0 given.1

pub returns-in-Ok-clause-made : goal.returns-in-Ok-clause-made
returns-in-Ok-clause-made c =
    let given = c.in_default.ensures.released.0 refl in
    return_made c.args.self.now _ c.args.thread c.requires.in_range c.args.used.now c.args.commit c.args.ranges.now c.args.keys.now c.in_default.ensures.regions c.in_default.ensures.depths c.release.ensures.rest given.0 given.1 c.in-Ok.ensures.told

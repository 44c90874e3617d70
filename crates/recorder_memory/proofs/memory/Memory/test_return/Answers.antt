use Rattle.std.proofs.Common.{refl}
use Rattle.recorder_memory.proofs.Returning.{allowed_passes, refused_found}
use Rattle.recorder_memory.proofs.memory.Memory.test_return.Goals as goal

pub returns-in-Ok-clause-passes : goal.returns-in-Ok-clause-passes
returns-in-Ok-clause-passes c = let given = c.in-Ok.ensures.released.0 refl in allowed_passes c.args.self.now c.args.thread c.args.used.now c.args.commit given.0 given.1

pub returns-in-Err-clause-refused : goal.returns-in-Err-clause-refused
returns-in-Err-clause-refused c = refused_found c.args.self.now c.args.thread c.args.used.now c.args.commit c.in-Err.refusal _ ((c.may_release.ensures.refused c.in-Err.refusal).0 c.in-Err.is) c.of.ensures

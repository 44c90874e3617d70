use Rattle.std.proofs.Common.{refl, arith}
use Rattle.recorder_memory.proofs.Accesses.{load_made, load_refused}
use Rattle.recorder_memory.proofs.memory.Memory.load_below.Goals as goal

pub returns-in-Ok-clause-loaded : goal.returns-in-Ok-clause-loaded
returns-in-Ok-clause-loaded c = λ origin. load_made c.args.self.now c.args.self.now c.args.thread c.args.addr c.args.width origin c.requires.in_range (omega arith) c.in-Ok.value (c.in-Ok.ensures.allowed.0 refl) c.in-Ok.ensures.number

pub returns-in-Err-clause-refused : goal.returns-in-Err-clause-refused
returns-in-Err-clause-refused c =
    λ origin. load_refused c.args.self.now c.args.self.now c.args.thread c.args.addr c.args.width origin c.requires.in_range
    (omega arith) c.in-Err.refusal _ ((c.load.ensures.refused c.in-Err.refusal).0 c.in-Err.is) c.of.ensures

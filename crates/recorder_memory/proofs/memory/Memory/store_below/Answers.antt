use Rattle.std.proofs.Common.{refl, arith}
use Rattle.recorder_memory.proofs.Accesses.{store_made, store_refused}
use Rattle.recorder_memory.proofs.Marking.{with_spaces}
use Rattle.recorder_memory.proofs.memory.Memory.store_below.Goals as goal

pub returns-in-Ok-clause-stored : goal.returns-in-Ok-clause-stored
returns-in-Ok-clause-stored c = λ origin. store_made c.args.self.now _ c.args.thread c.args.addr c.args.width origin c.requires.in_range
    (omega arith) c.args.value (c.in-Ok.ensures.allowed.0 refl) c.in-Ok.ensures.number c.in-Ok.ensures.others c.store.ensures.rest refl

pub returns-in-Err-clause-refused : goal.returns-in-Err-clause-refused
returns-in-Err-clause-refused c =
    λ origin. store_refused c.args.self.now c.args.self.now c.args.thread c.args.addr c.args.width origin c.requires.in_range
    (omega arith) c.args.value c.in-Err.refusal _ ((c.store.ensures.refused c.in-Err.refusal).0 c.in-Err.is) c.of.ensures

pub returns-in-Err-clause-unchanged : goal.returns-in-Err-clause-unchanged
returns-in-Err-clause-unchanged c = with_spaces c.args.self.now c.store.new.self _ c.in-Err.ensures.unchanged

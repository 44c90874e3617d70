use Rattle.std.proofs.Common.{refl}
use Rattle.recorder_memory.proofs.AccessesAbove.{load_made}
use Rattle.recorder_memory.proofs.Results.{both_some}
use Rattle.recorder_memory.proofs.memory.Memory.glance_above.Goals as goal

pub returns-clause-loaded : goal.returns-clause-loaded
returns-clause-loaded c = both_some c.glance.result _ _ _
    (λ value makes has origin. load_made c.args.self.now c.args.self.now c.args.thread c.args.addr c.args.width value origin
    (makes origin) has refl) c.glance.ensures.loaded c.glance.ensures.number

use Rattle.std.proofs.Common.{arith}
use Rattle.recorder_memory.proofs.Accesses.{load_seen}
use Rattle.recorder_memory.proofs.memory.Memory.glance_below.Goals as goal

pub returns-clause-loaded : goal.returns-clause-loaded
returns-clause-loaded c = load_seen c.args.self.now c.args.thread c.args.addr c.args.width c.glance.result c.requires.in_range (omega arith) c.glance.ensures.allowed c.glance.ensures.number

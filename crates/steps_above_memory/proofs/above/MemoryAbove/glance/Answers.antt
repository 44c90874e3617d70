use Rattle.std.proofs.Common.{arith}
use Rattle.steps_above_memory.proofs.Accesses.{load_seen}
use Rattle.steps_above_memory.proofs.above.MemoryAbove.glance.Goals as goal

pub returns-then-has-clause-loaded : goal.returns-then-has-clause-loaded
returns-then-has-clause-loaded c =
    load_seen c.args.self.now c.args.thread c.args.addr c.args.width c.glance.result c.requires.in_range (omega arith) c.glance.ensures.allowed c.glance.ensures.number (c.has.ensures.free c.if-has.true) (c.has.ensures.told c.if-has.true)

use Rattle.std.proofs.Common.{refl}
use Rattle.steps_above_memory.proofs.Happening.{quiet_made}
use Rattle.steps_above_memory.proofs.above.MemoryAbove.event.Goals as goal

pub returns-clause-made : goal.returns-clause-made
returns-clause-made c = quiet_made c.args.self.now _ c.args.thread c.args.keys.now refl c.in_ok-event.ensures.told

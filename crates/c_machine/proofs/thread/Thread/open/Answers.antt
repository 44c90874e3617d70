use Rattle.c_machine.specs.Positions.{config}
use Rattle.c_machine.proofs.Counts.{few_open}
use Rattle.c_machine.proofs.thread.Thread.open.Goals as goal

pub open-requires : goal.open-requires
open-requires c = few_open c.args.side (config c.self.inside.position) c.self.inside.depth c.self.invariant.replay c.self.invariant.system

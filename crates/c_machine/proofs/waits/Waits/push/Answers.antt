use Rattle.std.proofs.Common.{length, ap, arith}
use Rattle.marks.specs.declared.side.Side.TheVariants.{Replay, System}
use Rattle.c_machine_stack.specs.Stacks.{held}
use Rattle.c_machine.proofs.Counts.{waits_few}
use Rattle.c_machine.proofs.waits.Waits.push.Goals as goal

pub overflow_add-self : goal.overflow_add-self
overflow_add-self c = omega (arith, waits_few Replay (held c.args.self.now.all), c.args.self.now.replay_count, c.caller.ensures.few, ap length c.push.ensures.pushed, c.len-few.ensures.len)

pub overflow_add-self-2 : goal.overflow_add-self-2
overflow_add-self-2 c = omega (arith, waits_few System (held c.args.self.now.all), c.args.self.now.system_count, c.caller-2.ensures.few, ap length c.push.ensures.pushed, c.len-few.ensures.len)

use Rattle.std.proofs.Common.{arith}
use Rattle.c_machine_stack.specs.Stacks.{held}
use Rattle.c_machine.proofs.Pushes.{count}
use Rattle.c_machine.proofs.begin.push_all.Goals as goal

pub push-requires : goal.push-requires
push-requires c = omega (arith, count c.args.values.now (held c.args.stack.now) (held c.loop-value.stack) c.loop-value.value-index (omega (arith, c.loop-value-test.true)) c.loop-value.invariant.so_far, c.loop-value.invariant.room, c.requires, c.loop-value-test.true)

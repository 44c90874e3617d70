use Rattle.std.proofs.Common.{arith}
use Rattle.run_events.proofs.Written.{next_written}
use Rattle.run_events.proofs.tickets.write_tickets.Goals as goal

pub loop-i-preserved : goal.loop-i-preserved
loop-i-preserved c = next_written c.args.marks.now c.loop-i.marks c.args.tickets.now c.loop-i.i _ 0 c.requires.count (omega (arith, c.loop-i-test.true)) c.loop-i.invariant

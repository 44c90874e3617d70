use Rattle.logical_clock.proofs.Places.{some_key}
use Rattle.reference_recorder_marks.specs.Marks.{past}
use Rattle.reference_recorder_stamps.proofs.Stamped.{ticketed_more}
use Rattle.reference_recorder_stamps.proofs.next.ticketed.Goals as goal

pub loop-key-preserved : goal.loop-key-preserved
loop-key-preserved c = ticketed_more (past c.args.marks.now) c.args.keys.now c.loop-key.key-index some_key c.loop-key.tickets.items c.push.new.self.items c.count-ticket.result c.loop-key-test.true c.count-ticket.ensures c.in_ok-push.ensures.items c.loop-key.invariant

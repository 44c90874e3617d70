use Rattle.std.proofs.Common.{◌≡◌}
use Rattle.run_events.proofs.Written.{written}
use Rattle.run_events.proofs.tickets.write_tickets.Given as goal

abbrev pub invariant-loop-i : goal.invariant-loop-i
invariant-loop-i l = l.marks ≡ written l.i l.fn.marks l.tickets

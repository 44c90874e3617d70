-- What comes directly before an event of a log.
use Rattle.std.specs.Prelude.{◌+◌, List}
use Rattle.causal_order.specs.Order as order
use Rattle.run_events.specs.declared.key.KeyMark.{KeyMark}
use Rattle.log_closure.specs.Events.{LogEvent, numbered}

-- the key with the ticket after
abbrev pub next : KeyMark → KeyMark
next m = record { key = m.key; ticket = m.ticket + 1 }

-- the set holds the direct predecessors of the event: that of its thread, and one for each key with a
-- ticket above 0
abbrev pub HoldsPredecessors : List LogEvent → LogEvent → Type 0
HoldsPredecessors set f = order.HoldsPredecessors numbered set f

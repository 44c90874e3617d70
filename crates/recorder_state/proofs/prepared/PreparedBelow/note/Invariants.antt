use Rattle.std.proofs.Common.{take}
use Rattle.recorder_state.specs.Prepared.{Prepares}
use Rattle.recorder_state.proofs.prepared.PreparedBelow.note.Given as goal

abbrev pub invariant-loop-prepared : goal.invariant-loop-prepared
invariant-loop-prepared l = Prepares (take l.prepared-index l.prepares) l.fn.self l.self

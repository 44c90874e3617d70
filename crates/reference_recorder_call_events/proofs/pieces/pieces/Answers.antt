use Rattle.std.proofs.Common.{[], ◌+◌, take, sym, subst, arith}
use Rattle.marks.specs.declared.range.Range.{Range}
use Rattle.reference_recorder_call_events.specs.Memory.{AreRead, memory_of}
use Rattle.reference_recorder_call_events.proofs.Loops.{all_pieces, one_piece}
use Rattle.reference_recorder_call_events.proofs.pieces.pieces.Goals as goal

pub loop-i-init : goal.loop-i-init
loop-i-init c = subst (AreRead (memory_of c.args.memory) [] []) (sym c.new-pieces.ensures.items) tt

pub loop-i-preserved : goal.loop-i-preserved
loop-i-preserved c =
    let none : Range = record { addr = 0; len = 0 } in
    subst (AreRead (memory_of c.args.memory) (take (c.loop-i.i + 1) c.args.ranges.now) (take (c.loop-i.i + 1) c.args.used.now)) (sym c.in_ok-push.ensures.items)
    (one_piece (memory_of c.args.memory) c.args.ranges.now c.args.used.now c.loop-i.pieces.items c.loop-i.i none c.in_ok-piece.piece (omega arith) (omega arith) c.loop-i.invariant c.in_ok-piece.ensures)

pub returns : goal.returns
returns c = all_pieces (memory_of c.args.memory) c.args.ranges.now c.args.used.now c.loop-i.pieces.items c.loop-i.i (omega arith) c.requires c.loop-i.invariant

use Rattle.std.proofs.Common.{◌∙◌, sym, subst, arith}
use Rattle.recorder_memory.specs.Below.{LeavesSeen}
use Rattle.recorder_memory.proofs.Pieces.{all_written, answered, broken_off, one_more_written, piece_found}
use Rattle.recorder_memory.proofs.memory.Memory.answer_below.Goals as goal

pub returns-in-Err-clause-refused : goal.returns-in-Err-clause-refused
returns-in-Err-clause-refused c =
    piece_found c.args.self.now c.loop-i.self c.args.thread c.args.targets.now c.args.pieces.now c.loop-i.i _ c.as_slice.result.now c.index-pieces-i.result c.in-Err.refusal (omega arith) (omega arith) (c.as_slice.ensures ∙ c.index-pieces-i.is) c.loop-i.invariant.written c.in-Err.ensures.refused

pub returns-in-Err-clause-seen : goal.returns-in-Err-clause-seen
returns-in-Err-clause-seen c = subst (LeavesSeen c.args.self.now) (sym c.in-Err.ensures.unchanged) (broken_off c.args.self.now c.loop-i.self c.args.thread _ _ c.loop-i.invariant.written)

pub loop-i-preserved : goal.loop-i-preserved
loop-i-preserved c = record {
  written = one_more_written c.args.self.now c.loop-i.self c.put_piece.new.self c.args.thread c.args.targets.now c.args.pieces.now c.loop-i.i _ c.as_slice.result.now c.index-pieces-i.result (omega arith) (omega arith) (c.as_slice.ensures ∙ c.index-pieces-i.is) c.loop-i.invariant.written c.in_default.ensures.written;
  watch = c.put_piece.ensures.watch ∙ c.loop-i.invariant.watch;
}

pub returns-clause-answered : goal.returns-clause-answered
returns-clause-answered c = answered c.args.self.now c.loop-i.self c.args.thread _ _ c.loop-i.invariant.watch
    (all_written c.args.self.now c.loop-i.self c.args.thread c.args.targets.now c.args.pieces.now c.loop-i.i (omega arith)
    (omega arith) c.loop-i.invariant.written)

pub returns-clause-seen : goal.returns-clause-seen
returns-clause-seen c = broken_off c.args.self.now c.loop-i.self c.args.thread _ _ c.loop-i.invariant.written

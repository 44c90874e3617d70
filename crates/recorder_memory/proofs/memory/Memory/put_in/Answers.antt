use Rattle.std.proofs.Common.{refl, arith}
use Rattle.recorder_memory.proofs.Marking.{with_spaces}
use Rattle.recorder_memory.proofs.Pieces.{piece_written, piece_refused, piece_too_long}
use Rattle.recorder_memory.proofs.memory.Memory.put_in.Goals as goal

pub returns-then-region-bytes-clause-refused : goal.returns-then-region-bytes-clause-refused
returns-then-region-bytes-clause-refused c = piece_too_long c.args.self.now c.args.thread c.args.region c.args.bytes.now (omega arith)

pub returns-in-Ok-clause-written : goal.returns-in-Ok-clause-written
returns-in-Ok-clause-written c = piece_written c.args.self.now _ c.args.thread c.args.region c.args.bytes.now (omega arith) (omega arith)
    (c.in-Ok.ensures.allowed.0 refl) c.in-Ok.ensures.written c.in-Ok.ensures.others c.write.ensures.rest refl

pub returns-in-Err-clause-refused : goal.returns-in-Err-clause-refused
returns-in-Err-clause-refused c = piece_refused c.args.self.now c.args.self.now c.args.thread c.args.region c.args.bytes.now (omega arith)
    (omega arith) c.in-Err.refusal _ ((c.write.ensures.refused c.in-Err.refusal).0 c.in-Err.is) c.of.ensures

pub returns-in-Err-clause-unchanged : goal.returns-in-Err-clause-unchanged
returns-in-Err-clause-unchanged c = with_spaces c.args.self.now c.write.new.self _ c.in-Err.ensures.unchanged

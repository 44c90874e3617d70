use Rattle.reference_recorder_spaces.proofs.Answered.{ok_not}
use Rattle.reference_recorder_spaces.proofs.bytes.put.Goals as goal

pub unreachable-requires : goal.unreachable-requires
unreachable-requires c = ok_not c.write.result c.in-Err.field-0 (c.write.ensures.allowed.1 c.requires) c.in-Err.is

pub returns : goal.returns
returns c = record { allowed = c.requires; bytes_are = c.in-Ok.ensures.written; others = c.in-Ok.ensures.others; rest = c.write.ensures.rest }

use Rattle.recorder_memory.proofs.Marking.{with_spaces}
use Rattle.recorder_memory.proofs.Pool.{freed, free_refused}
use Rattle.recorder_memory.proofs.memory.Memory.free_below.Goals as goal

pub returns-in-Ok-clause-freed : goal.returns-in-Ok-clause-freed
returns-in-Ok-clause-freed c =
    freed c.args.self.now c.free_in.new.self _ c.args.addr c.in-Ok.field-0 c.free_in.result c.in-Ok.is c.free_in.ensures.null c.in-Ok.ensures.length c.in-Ok.ensures.freed c.in-Ok.ensures.dead c.free_in.ensures.held c.free_in.ensures.refused

pub returns-in-Err-clause-refused : goal.returns-in-Err-clause-refused
returns-in-Err-clause-refused c =
    let p = (c.free_in.ensures.refused c.in-Err.refusal).0 c.in-Err.is in
    free_refused c.args.self.now c.args.addr c.in-Err.refusal _ p.0 p.1 c.of.ensures

pub returns-in-Err-clause-unchanged : goal.returns-in-Err-clause-unchanged
returns-in-Err-clause-unchanged c = with_spaces c.args.self.now c.free_in.new.self _ c.in-Err.ensures.unchanged

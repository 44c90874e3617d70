use Rattle.c_machine.specs.Positions.{laid}
use Rattle.recorder_threads.proofs.Looks.{across}
use Rattle.recorder_threads.proofs.look.next_across.Goals as goal

pub returns-clause-next : goal.returns-clause-next
returns-clause-next c =
    across (laid c.args.code.now c.args.placed.now) c.check.ensures c.args.thread.now c.cross.new.self c.cross.ensures.crossed c.args.func c.body_frame.result c.told_crossing.result
    c.requires.crosses c.requires.call c.body_frame.ensures c.told_crossing.ensures

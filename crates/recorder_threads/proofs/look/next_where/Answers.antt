use Rattle.c_machine.specs.Positions.{laid}
use Rattle.recorder_threads.proofs.Looks.{mark}
use Rattle.recorder_threads.proofs.look.next_where.Goals as goal

pub returns-in_default : goal.returns-in_default
returns-in_default c = λ d rests.
    mark (laid c.args.code.now c.args.placed.now) c.check.ensures c.args.thread.now d rests c.args.want c.side.result c.indirect.result c.told_mark.result
    c.in_default.not-Call c.requires.inside.enters c.requires.shown c.side.ensures c.indirect.ensures c.told_mark.ensures

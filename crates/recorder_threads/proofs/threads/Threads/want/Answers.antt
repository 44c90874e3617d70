use Rattle.std.proofs.Common.{◌≡◌, get_or, subst}
use Rattle.c_machine.specs.Positions.{laid}
use Rattle.recorder_threads.proofs.Places.{read_is, told_is}
use Rattle.recorder_threads.proofs.threads.Threads.want.Goals as goal

pub returns : goal.returns
returns c = λ w past same are.
    told_is w past (laid c.args.code.now c.args.placed.now) c.args.self.now c.args.thread c.index.result.now c.next_of.result same are c.requires.started
    (read_is c.args.self.now c.args.thread c.index.result.now c.requires.started (subst (λ ts. c.index.result.now ≡ get_or ts c.args.thread c.index.result.now) c.self.view_is c.index.ensures))
    (λ rests. c.next_of.ensures _ rests)

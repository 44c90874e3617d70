use Rattle.std.proofs.Common.{sym, ◌∙◌}
use Rattle.c_machine.specs.Positions.{laid}
use Rattle.recorder_threads.proofs.Looks.{crossing, plain}
use Rattle.recorder_threads.proofs.look.call_of.Goals as goal

pub returns-then-crosses : goal.returns-then-crosses
returns-then-crosses c = λ d rests.
    let l = laid c.args.code.now c.args.placed.now in
    crossing l c.check.ensures c.args.thread.now d rests c.args.func c.mode.result c.mode.result c.indirect.result c.body_frame-frame.result c.told_crossing.result
    c.requires c.indirect.ensures c.body_frame-frame.ensures (sym c.crosses.ensures ∙ c.if-crosses.true) c.mode.ensures c.told_crossing.ensures

pub returns-else-crosses : goal.returns-else-crosses
returns-else-crosses c = λ d rests.
    let l = laid c.args.code.now c.args.placed.now in
    plain l c.check.ensures c.args.thread.now d rests c.args.func c.side.result c.side.result c.indirect-else-crosses.result c.body_frame-frame.result c.told_call.result
    c.requires c.indirect-else-crosses.ensures c.body_frame-frame.ensures (sym c.crosses.ensures ∙ c.if-crosses.false) c.side.ensures c.told_call.ensures

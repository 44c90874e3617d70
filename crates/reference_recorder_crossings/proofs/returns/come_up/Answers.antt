use Rattle.reference_recorder_crossings.proofs.ReturnChecks.{brought}
use Rattle.reference_recorder_crossings.proofs.returns.come_up.Goals as goal

pub returns : goal.returns
returns c = λ w p h a is.
    brought w p c.args.func c.args.args.now c.args.value c.args.answers.now c.args.pieces.now c.in_ok-called.called c.in_ok-known.known
    is (c.in_ok-called.ensures w a) (c.in_ok-known.ensures w a) c.brought.result (c.brought.ensures w p h)

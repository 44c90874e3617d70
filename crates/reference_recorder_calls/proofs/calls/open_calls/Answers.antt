use Rattle.std.proofs.Common.{◌≤◌, length, refl, arith}
use Rattle.marks.specs.Opens.{open_calls}
use Rattle.marks.specs.Opens.{act_calls}
use Rattle.reference_recorder_calls.proofs.Own.{look_all, look_more}
use Rattle.reference_recorder_calls.proofs.calls.open_calls.Goals as goal

pub loop-mark-preserved : goal.loop-mark-preserved
loop-mark-preserved c = look_more open_calls act_calls (λ m p. refl) c.args.marks.now c.loop-mark.mark-index c.mark-item.result c.loop-mark-test.true c.mark-item.is c.args.thread c.loop-mark.calls.items c.mark_calls.new.calls.items c.in_ok-mark_calls.ensures c.loop-mark.invariant

pub returns : goal.returns
returns c =
    let le : length c.args.marks.now ≤ c.loop-mark.mark-index = omega arith in
    look_all open_calls c.args.marks.now c.loop-mark.mark-index le c.args.thread c.loop-mark.calls.items c.loop-mark.invariant

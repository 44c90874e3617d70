use Rattle.std.proofs.Common.{◌≤◌, length, refl, arith}
use Rattle.marks.specs.Opens.{open_ups}
use Rattle.marks.specs.Opens.{act_ups}
use Rattle.reference_recorder_calls.proofs.Own.{look_all, look_more}
use Rattle.reference_recorder_calls.proofs.ups.open_ups.Goals as goal

pub loop-mark-preserved : goal.loop-mark-preserved
loop-mark-preserved c = look_more open_ups act_ups (λ m p. refl) c.args.marks.now c.loop-mark.mark-index c.mark-item.result c.loop-mark-test.true c.mark-item.is c.args.thread c.loop-mark.ups.items c.mark_ups.new.ups.items c.in_ok-mark_ups.ensures c.loop-mark.invariant

pub returns : goal.returns
returns c =
    let le : length c.args.marks.now ≤ c.loop-mark.mark-index = omega arith in
    look_all open_ups c.args.marks.now c.loop-mark.mark-index le c.args.thread c.loop-mark.ups.items c.loop-mark.invariant

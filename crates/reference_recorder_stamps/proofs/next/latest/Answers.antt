use Rattle.std.proofs.Common.{length, ◌≤◌, arith}
use Rattle.logical_clock.proofs.Places.{some_key}
use Rattle.reference_recorder_marks.specs.Marks.{past}
use Rattle.reference_recorder_stamps.proofs.Stamped.{latest_all, latest_more}
use Rattle.reference_recorder_stamps.proofs.next.latest.Goals as goal

pub loop-key-preserved : goal.loop-key-preserved
loop-key-preserved c = latest_more (past c.args.marks.now) c.args.thread c.args.keys.now c.loop-key.key-index some_key c.loop-key.clock c.last_clock-more.result c.max-clock.result c.loop-key-test.true c.last_clock-more.ensures c.max-clock.ensures c.loop-key.invariant

pub returns : goal.returns
returns c =
    let le : length c.args.keys.now ≤ c.loop-key.key-index = omega arith in
    latest_all (past c.args.marks.now) c.args.thread c.args.keys.now c.loop-key.key-index c.loop-key.clock c.last_clock-own.result c.max.result le c.last_clock-own.ensures c.max.ensures c.loop-key.invariant

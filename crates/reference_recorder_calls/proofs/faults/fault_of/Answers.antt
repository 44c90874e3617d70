use Rattle.std.proofs.Common.{◌≤◌, length, refl, arith}
use Rattle.replay_runs.specs.Threads.{fault_of}
use Rattle.replay_runs.specs.Threads.{act_fault}
use Rattle.reference_recorder_calls.proofs.Own.{look_all, look_more}
use Rattle.reference_recorder_calls.proofs.faults.fault_of.Goals as goal

pub loop-mark-preserved : goal.loop-mark-preserved
loop-mark-preserved c = look_more fault_of act_fault (λ m p. refl) c.args.marks.now c.loop-mark.mark-index c.mark-item.result c.loop-mark-test.true c.mark-item.is c.args.thread c.loop-mark.fault c.fault_after-fault.result c.fault_after-fault.ensures c.loop-mark.invariant

pub returns : goal.returns
returns c =
    let le : length c.args.marks.now ≤ c.loop-mark.mark-index = omega arith in
    look_all fault_of c.args.marks.now c.loop-mark.mark-index le c.args.thread c.loop-mark.fault c.loop-mark.invariant

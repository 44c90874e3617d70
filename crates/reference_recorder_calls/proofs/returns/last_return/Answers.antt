use Rattle.std.proofs.Common.{◌≤◌, None, length, refl, sym, ◌∙◌, arith}
use Rattle.replay_runs.specs.Threads.{act_return, last_return}
use Rattle.reference_recorder_calls.proofs.Own.{look_all, look_more}
use Rattle.reference_recorder_calls.proofs.returns.last_return.Goals as goal

pub loop-mark-preserved : goal.loop-mark-preserved
loop-mark-preserved c = look_more (last_return None c.args.func) (act_return c.args.func) (λ m p. refl) c.args.marks.now c.loop-mark.mark-index c.mark-item.result c.loop-mark-test.true c.mark-item.is c.args.thread c.loop-mark.last c.later-last.result (c.later-last.ensures ∙ sym (c.in_ok-gave.ensures c.loop-mark.last)) c.loop-mark.invariant

pub returns : goal.returns
returns c =
    let le : length c.args.marks.now ≤ c.loop-mark.mark-index = omega arith in
    look_all (last_return None c.args.func) c.args.marks.now c.loop-mark.mark-index le c.args.thread c.loop-mark.last c.loop-mark.invariant

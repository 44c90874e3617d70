use Rattle.std.proofs.Common.{length, ◌∙◌, ◌≤◌, arith}
use Rattle.replay_runs.specs.Runs.{steps_since}
use Rattle.reference_recorder_stamps.proofs.Counted.{at_end, mine, steps_more, steps_small}
use Rattle.reference_recorder_stamps.proofs.numbers.steps_since.Goals as goal

pub loop-mark-preserved : goal.loop-mark-preserved
loop-mark-preserved c = (
  steps_more c.args.marks.now c.loop-mark.mark-index c.mark-item.result c.loop-mark-test.true c.mark-item.is c.args.thread c.loop-mark.steps c.steps_after-steps.result c.steps_after-steps.ensures c.loop-mark.invariant.0,
  steps_small c.args.marks.now c.loop-mark.mark-index c.mark-item.result c.loop-mark-test.true c.mark-item.is c.args.thread c.loop-mark.steps c.steps_after-steps.result c.steps_after-steps.ensures c.loop-mark.invariant.1,
)

pub returns : goal.returns
returns c = λ memory. let le : length c.args.marks.now ≤ c.loop-mark.mark-index = omega arith in c.loop-mark.invariant.0 memory ∙ at_end (λ p. steps_since (mine memory c.args.thread p)) c.args.marks.now c.loop-mark.mark-index le

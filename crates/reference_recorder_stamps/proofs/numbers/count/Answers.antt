use Rattle.std.proofs.Common.{length}
use Rattle.replay_runs.specs.Runs.{new_events}
use Rattle.reference_recorder_stamps.specs.Links.{link_of}
use Rattle.reference_recorder_stamps.proofs.Counted.{at_end, count_more}
use Rattle.std.proofs.Common.{◌∙◌, ◌≤◌, arith}
use Rattle.reference_recorder_stamps.proofs.numbers.count.Goals as goal

pub loop-mark-preserved : goal.loop-mark-preserved
loop-mark-preserved c = count_more c.args.marks.now c.loop-mark.mark-index c.mark-item.result c.loop-mark-test.true c.mark-item.is (link_of c.args.link) c.loop-mark.number c.count_after-number.result c.count_after-number.ensures c.loop-mark.invariant

pub returns : goal.returns
returns c = let le : length c.args.marks.now ≤ c.loop-mark.mark-index = omega arith in c.loop-mark.invariant.0 ∙ at_end (λ p. length (new_events (link_of c.args.link) p)) c.args.marks.now c.loop-mark.mark-index le

use Rattle.std.proofs.Common.{length, ◌∙◌, ◌≤◌, arith}
use Rattle.whole_runs.specs.Ends.{events_of}
use Rattle.reference_recorder_records.proofs.Counted.{at_end, events_more}
use Rattle.reference_recorder_records.proofs.counts.events.Goals as goal

pub loop-mark-preserved : goal.loop-mark-preserved
loop-mark-preserved c = events_more c.args.marks.now c.loop-mark.mark-index c.mark-item.result c.loop-mark-test.true c.mark-item.is c.loop-mark.number c.events_after-number.result c.events_after-number.ensures c.loop-mark.invariant

pub returns : goal.returns
returns c = let le : length c.args.marks.now ≤ c.loop-mark.mark-index = omega arith in c.loop-mark.invariant.0 ∙ at_end (λ p. length (events_of p)) c.args.marks.now c.loop-mark.mark-index le

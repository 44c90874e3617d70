use Rattle.std.proofs.Common.{length, ◌∙◌, ◌≤◌, arith}
use Rattle.replay_runs.specs.Runs.{last_clock, new_events}
use Rattle.reference_recorder_stamps.specs.Links.{link_of}
use Rattle.reference_recorder_stamps.proofs.Counted.{at_end, clock_more}
use Rattle.reference_recorder_stamps.proofs.numbers.last_clock.Goals as goal

pub loop-mark-preserved : goal.loop-mark-preserved
loop-mark-preserved c = clock_more c.args.marks.now c.loop-mark.mark-index c.mark-item.result c.loop-mark-test.true c.mark-item.is (link_of c.args.link) c.loop-mark.clock c.clock_after-clock.result c.clock_after-clock.ensures c.loop-mark.invariant

pub returns : goal.returns
returns c = let le : length c.args.marks.now ≤ c.loop-mark.mark-index = omega arith in c.loop-mark.invariant ∙ at_end (λ p. last_clock (new_events (link_of c.args.link) p)) c.args.marks.now c.loop-mark.mark-index le

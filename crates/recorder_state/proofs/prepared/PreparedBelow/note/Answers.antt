use Rattle.std.proofs.Common.{◌∙◌}
use Rattle.recorder_state.proofs.Regions.{all_kept, one_more}
use Rattle.recorder_state.proofs.prepared.PreparedBelow.note.Goals as goal

pub loop-prepared-preserved : goal.loop-prepared-preserved
loop-prepared-preserved c = one_more c.args.self.now c.loop-prepared.self (record { regions = c.insert.new.self }) c.args.prepares.now c.loop-prepared.prepared-index _ (record { key = c.prepared.inside.key; range = c.prepared.inside.range }) c.loop-prepared-test.true (c.prepared.view_is ∙ c.prepared-item.is) c.loop-prepared.invariant c.in_ok-insert.ensures.updates

pub returns : goal.returns
returns c = all_kept c.args.self.now c.loop-prepared.self c.args.prepares.now c.loop-prepared.prepared-index c.loop-prepared-test.false c.loop-prepared.invariant

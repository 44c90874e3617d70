use Rattle.steps_above_interface.proofs.Standing.{registered_more}
use Rattle.steps_above_interface.proofs.state.register_all.Goals as goal

pub loop-key-preserved : goal.loop-key-preserved
loop-key-preserved c = registered_more c.args.keys.now c.loop-key.key-index _ c.args.registered.now c.loop-key.registered c.register_one.new.registered c.loop-key-test.true c.loop-key.invariant c.register_one.ensures

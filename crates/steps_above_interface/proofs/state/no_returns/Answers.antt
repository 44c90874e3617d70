use Rattle.steps_above_interface.proofs.Blank.{blank_more}
use Rattle.steps_above_interface.proofs.state.no_returns.Goals as goal

pub loop-function-preserved : goal.loop-function-preserved
loop-function-preserved c = blank_more c.loop-function._function c.loop-function.rows.items c.push.new.self.items c.loop-function.invariant c.in_ok-push.ensures.items

use Rattle.std.proofs.Common.{◌∙◌, arith}
use Rattle.recorder_state.proofs.state.RunState.new.Goals as goal

pub with-requires-clause-stamps : goal.with-requires-clause-stamps
with-requires-clause-stamps c = c.in_ok-stamps.ensures _

pub with-requires-clause-interface : goal.with-requires-clause-interface
with-requires-clause-interface c = c.in_ok-interface.ensures.begins _ _

pub with-requires-clause-functions : goal.with-requires-clause-functions
with-requires-clause-functions c = c.in_ok-interface.ensures.functions ∙ (let f = c.from.ensures in let n = c.sources.ensures.count in omega (arith, f, n))

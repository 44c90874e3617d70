use Rattle.steps_above_interface.specs.State.{AreBlank}
use Rattle.steps_above_interface.proofs.state.no_returns.Given as goal

abbrev pub invariant-loop-function : goal.invariant-loop-function
invariant-loop-function l = AreBlank l._function l.rows.items

use Rattle.std.proofs.Common.{take}
use Rattle.logical_clock.specs.Events.{is_among}
use Rattle.steps_above_interface.specs.State.{AreRegistered}
use Rattle.steps_above_interface.proofs.state.register_all.Given as goal

abbrev pub invariant-loop-key : goal.invariant-loop-key
invariant-loop-key l = AreRegistered (is_among (take l.key-index l.keys)) l.fn.registered l.registered

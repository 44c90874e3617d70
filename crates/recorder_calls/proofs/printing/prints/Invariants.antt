use Rattle.std.proofs.Common.{◌≡◌, drop}
use Rattle.run_events.specs.declared.key.Class.TheVariants.{Out}
use Rattle.logical_clock.specs.Events.{is_among}
use Rattle.replay_runs.specs.Keys.{key}
use Rattle.recorder_calls.proofs.printing.prints.Given as goal

abbrev pub invariant-loop-key : goal.invariant-loop-key
invariant-loop-key l = is_among l.keys (key Out 0) ≡ is_among (drop l.key-index l.keys) (key Out 0)

use Rattle.run_events.specs.declared.key.Class.TheVariants.{Callback}
use Rattle.replay_runs.specs.Keys.{key}
use Rattle.stub_calls.proofs.Sorted.{Put}
use Rattle.stub_calls.proofs.keys.put_callbacks.Given as goal

abbrev pub invariant-loop-done : goal.invariant-loop-done
invariant-loop-done l = Put (key Callback) l.funcs l.done l.fn.keys.items l.keys.items

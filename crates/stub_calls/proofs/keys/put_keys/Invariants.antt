use Rattle.run_events.specs.declared.key.Key.{Key}
use Rattle.stub_calls.proofs.Sorted.{Put}
use Rattle.stub_calls.proofs.keys.put_keys.Given as goal

abbrev pub invariant-loop-done : goal.invariant-loop-done
invariant-loop-done l = Put (λ (k : Key). k) l.more l.done l.fn.keys.items l.keys.items

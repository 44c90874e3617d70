use Rattle.run_events.specs.declared.key.Class.TheVariants.{Async}
use Rattle.marks.specs.Ranges.{Prepared}
use Rattle.replay_runs.specs.Keys.{key}
use Rattle.stub_calls.proofs.Sorted.{Put}
use Rattle.stub_calls.proofs.keys.put_prepared.Given as goal

abbrev pub invariant-loop-done : goal.invariant-loop-done
invariant-loop-done l = Put (λ (p : Prepared). key Async p.key) l.prepares l.done l.fn.keys.items l.keys.items

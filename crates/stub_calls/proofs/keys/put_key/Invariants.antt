use Rattle.std.proofs.Common.{◌≡◌}
use Rattle.stub_calls.proofs.Sorted.{Passed}
use Rattle.stub_calls.proofs.keys.put_key.Given as goal

abbrev pub invariant-loop-at : goal.invariant-loop-at
invariant-loop-at l = record { same : l.keys.items ≡ l.fn.keys.items; passed : Passed l.key l.fn.keys.items l.at }

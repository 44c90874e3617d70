use Rattle.std.proofs.Common.{◌≡◌, ◌≤◌, ℕ, length, ◌+◌, ◌-◌}
use Rattle.stub_operations.specs.Stubs.{operations_at}
use Rattle.stub_operations.proofs.stubs.ByNumber.grow.Given as goal

abbrev pub invariant-loop-self : goal.invariant-loop-self
invariant-loop-self l = record {
  same : (f : ℕ) → operations_at l.self-inside.items.items f ≡ operations_at l.initial.self-inside.items.items f;
  few : length l.self-inside.items.items ≤ 65536;
}

abbrev pub decreases-loop-self : goal.decreases-loop-self
decreases-loop-self l = l.func + 1 - length l.self-inside.items.items

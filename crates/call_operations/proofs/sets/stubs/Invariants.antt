use Rattle.std.proofs.Common.{◌≡◌, ℕ, cond, ltb, None}
use Rattle.stub_operations.specs.Stubs.{added_at, below_at}
use Rattle.call_operations.specs.Sets.{below_of, stubs_of}
use Rattle.call_operations.proofs.sets.stubs.Given as goal

abbrev pub invariant-loop-number : goal.invariant-loop-number
invariant-loop-number l = record {
  added : (f : ℕ) → added_at l.set f ≡ cond (ltb f l.number) (stubs_of l.purpose l.iface f) None;
  below : (f : ℕ) → below_at l.set f ≡ cond (ltb f l.number) (below_of l.functions l.iface f) None;
}

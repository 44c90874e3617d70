use Rattle.std.proofs.Common.{◌≡◌, ◌<◌, ℕ, [], get_or, length}
use Rattle.std.specs.Global.{Vec}
use Rattle.log_closure.proofs.closing.empty_lists.Given as goal

abbrev pub invariant-loop-thread : goal.invariant-loop-thread
invariant-loop-thread l = record {
  wide : length l.lists.items ≡ l._thread;
  empty : (t : ℕ) (d : Vec ℕ) → t < length l.lists.items → (get_or l.lists.items t d).items ≡ [];
}

use Rattle.std.proofs.Common.{ℕ, ◌≡◌, ◌+◌, ◌-◌, ◌<◌, ◌≤◌}
use Rattle.space_memory_access.specs.Held.{IsServed}
use Rattle.space_memory_access.proofs.regions.Regions.first_unserved.Given as goal

-- each byte before this one is served
abbrev pub invariant-loop-addr : goal.invariant-loop-addr
invariant-loop-addr l = record {
  from : l.fn.range.addr ≤ l.addr;
  served : (x : ℕ) → l.fn.range.addr ≤ x → x < l.addr → IsServed l.self.regions l.thread l.write x;
}

abbrev pub decreases-loop-addr : goal.decreases-loop-addr
decreases-loop-addr l = l.end - l.addr

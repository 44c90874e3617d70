use Rattle.std.proofs.Common.{ℕ, ◌≡◌, ◌+◌, ◌-◌, ◌^◌, ◌<◌, ◌≤◌, get_or}
use Rattle.space_memory_bytes.specs.Numbers.{digit}
use Rattle.space_memory_bytes.proofs.marked_bytes.digits_at.Given as goal

-- the number of the bytes from this place on
abbrev pub invariant-loop-place : goal.invariant-loop-place
invariant-loop-place l = record {
  to : l.place ≤ l.n;
  fits : l.value < 256 ^ (l.n - l.place);
  digits : (i : ℕ) → i < l.n - l.place → digit l.value i ≡ get_or l.bytes (l.at + l.place + i) 0;
}

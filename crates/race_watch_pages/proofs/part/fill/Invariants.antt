use Rattle.std.proofs.Common.{◌≡◌, ℕ, ◌<◌, ◌&&◌, nat_le, nat_lt, cond, length, get_or}
use Rattle.race_watch_pages.proofs.part.fill.Given as goal

abbrev pub invariant-loop-k : goal.invariant-loop-k
invariant-loop-k l = (k : ℕ) → k < length l.initial.values → get_or l.values k 0 ≡ cond (nat_le l.from k && nat_lt k l.k) l.value (get_or l.initial.values k 0)

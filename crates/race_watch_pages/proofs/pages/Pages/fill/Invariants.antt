use Rattle.std.proofs.Common.{◌≡◌, ℕ, ◌≤◌, ◌-◌, ◌&&◌, nat_le, nat_lt, cond}
use Rattle.race_watch_pages.specs.Kept.{kept, size, IsThere, IsSplit, IsReady}
use Rattle.race_watch_pages.proofs.pages.Pages.fill.Given as goal

abbrev pub invariant-loop-at : goal.invariant-loop-at
invariant-loop-at l = record {
  low : l.from ≤ l.at;
  high : l.at ≤ l.to;
  size : size l.self ≡ size l.initial.self;
  stays : (p : ℕ) → IsThere l.initial.self p → IsThere l.self p;
  split : (p : ℕ) → IsSplit l.initial.self p → IsSplit l.self p;
  ready : IsReady l.self l.at l.to;
  filled : (c : ℕ) → kept l.self c ≡ cond (nat_le l.from c && nat_lt c l.at) l.value (kept l.initial.self c);
}

abbrev pub decreases-loop-at : goal.decreases-loop-at
decreases-loop-at l = l.to - l.at

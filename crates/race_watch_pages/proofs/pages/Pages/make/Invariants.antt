use Rattle.std.proofs.Common.{◌≡◌, ℕ, ◌≤◌, ◌-◌}
use Rattle.race_watch_pages.specs.Kept.{kept, size, IsThere, IsSplit, IsReady}
use Rattle.race_watch_pages.proofs.pages.Pages.make.Given as goal

abbrev pub invariant-loop-at : goal.invariant-loop-at
invariant-loop-at l = record {
  low : l.from ≤ l.at;
  high : l.at ≤ l.to;
  size : size l.self ≡ size l.initial.self;
  same : (c : ℕ) → kept l.self c ≡ kept l.initial.self c;
  ready : IsReady l.self l.from l.at;
  stays : (p : ℕ) → IsThere l.initial.self p → IsThere l.self p;
  split : (p : ℕ) → IsSplit l.initial.self p → IsSplit l.self p;
}

abbrev pub decreases-loop-at : goal.decreases-loop-at
decreases-loop-at l = l.to - l.at

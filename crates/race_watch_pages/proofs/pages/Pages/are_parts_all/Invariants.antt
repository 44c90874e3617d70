use Rattle.std.proofs.Common.{◌≡◌, ℕ, ◌<◌, ◌≤◌, ◌-◌}
use Rattle.race_watch_pages.specs.Kept.{kept}
use Rattle.race_watch_pages.proofs.pages.Pages.are_parts_all.Given as goal

abbrev pub invariant-loop-at : goal.invariant-loop-at
invariant-loop-at l = (l.from ≤ l.at) × (l.at ≤ l.to) × ((c : ℕ) → l.from ≤ c → c < l.at → kept l.self c ≡ l.value)

abbrev pub decreases-loop-at : goal.decreases-loop-at
decreases-loop-at l = l.to - l.at

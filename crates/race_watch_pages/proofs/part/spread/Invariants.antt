use Rattle.std.proofs.Common.{◌≡◌, ℕ, ◌<◌, ◌/◌, length, get_or}
use Rattle.race_watch_pages.proofs.part.spread.Given as goal

abbrev pub invariant-loop-k : goal.invariant-loop-k
invariant-loop-k l = record {
  long : length l.values ≡ 256;
  each : (k : ℕ) → k < l.k → get_or l.values k 0 ≡ get_or l.words (k / 4) 0;
}

-- What a check finds.
use Rattle.std.specs.Prelude.{◌≡◌, ℕ, ◌^◌, ◌≤◌, List, Option, None, MatchOption}
use Rattle.marks.specs.Marks.{Mark}
use Rattle.marks.specs.Bytes.{Dead}
use Rattle.replay_runs.specs.Runs.{byte}
use Rattle.replay_runs.specs.Checks.{Least}
use Rattle.whole_runs.specs.World.{World, begin}
use Rattle.whole_runs.specs.Sides.{seen}
use Rattle.whole_runs.specs.Memory.{real}

-- the least bad number; none where no number is bad
abbrev pub IsLeastBad : (ℕ → Type 0) → Option ℕ → Type 0
IsLeastBad Bad first = MatchOption first ((x : ℕ) → Bad x → ⊥) (Least Bad)

-- no byte from 2^31 on is in a live object, for either side
abbrev pub IsLow : World → List Mark → Type 0
IsLow w past = (x : ℕ) → 2 ^ 31 ≤ x →
    ((byte (begin w) x (seen past)).cell ≡ Dead) × (real w past x ≡ None)

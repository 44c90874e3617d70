-- Which functions may run on each side, as plain data.
use Rattle.std.specs.Prelude.{◌≡◌, ◌↔◌, ℕ, ◌+◌, ◌<◌, Bool, true, List}
use Rattle.marks.specs.declared.side.Side.{Side}
use Rattle.marks.specs.declared.side.Side.TheVariants.{Replay, System}
use Rattle.cut_graph_paths.specs.Graphs.{flag}

-- flags of functions by number, builtins too
pub record Runs : Type 0 where
  pub above : List Bool
  pub below : List Bool

abbrev pub may : Runs → Side → ℕ → Bool
may r Replay f = flag r.above f
may r System f = flag r.below f

-- the flags of so many numbers, from a first one on
pub record IsPart (part flags : List Bool) (first count : ℕ) : Type 0 where
  pub is : (f : ℕ) → (flag part f ≡ true) ↔ ((f < count) × (flag flags (first + f) ≡ true))

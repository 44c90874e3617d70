-- In which area each global lies, by the sides of the cut that mention it.
use Rattle.std.specs.Prelude.{◌≡◌, ℕ, List, length, Some, slice_get}
use Rattle.marks.specs.declared.side.Side.{Side}
use Rattle.marks.specs.declared.side.Side.TheVariants.{Replay, System}
use Rattle.cut_graph_rules.specs.Findings.{Cut, IsTouching, IsWritten}
use Rattle.isolation_check_rules.specs.declared.area.Area.{Area}
use Rattle.isolation_check_rules.specs.declared.area.Area.TheVariants as areas

-- some function that may run on this side mentions the global
abbrev pub IsMentioned : Cut → Side → (place : ℕ) → Type 0
IsMentioned c side place = (f : ℕ) × IsTouching c side place f

pub data LiesIn (c : Cut) (place : ℕ) : Area → Type 0 where
  -- mentioned on both sides and written on none
  shared : IsMentioned c Replay place → IsMentioned c System place → (IsWritten c place → ⊥) →
      LiesIn c place areas.Constants
  -- mentioned below the cut alone
  below : (IsMentioned c Replay place → ⊥) → IsMentioned c System place → LiesIn c place areas.System
  -- all others: not mentioned below, or mentioned above and written
  above : (IsMentioned c System place → ⊥) → LiesIn c place areas.Replay
  written : IsMentioned c Replay place → IsWritten c place → LiesIn c place areas.Replay

-- the areas of all globals, in order
pub record AreAreas (c : Cut) (all : List Area) : Type 0 where
  pub each : length all ≡ length c.program.globals
  pub lie : (place : ℕ) (a : Area) → slice_get all place ≡ Some a → LiesIn c place a

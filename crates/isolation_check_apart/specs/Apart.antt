-- Places that memory takes.
use Rattle.std.specs.Prelude.{Contains}
use Rattle.memory_map.specs.declared.placed.Place.{Place}
use Rattle.memory_map.specs.declared.placed.Placed.{Placed}
use Rattle.whole_runs.specs.Fits.{LieApart, Meet}

-- each object lies in an area, and no two meet
pub record AreApart (q : Placed) : Type 0 where
  pub globals : LieApart q.globals
  pub strings : LieApart q.strings
  pub apart : (o r : Place) → Contains q.globals o → Contains q.strings r → ¬ Meet o r

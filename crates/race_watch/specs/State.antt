-- What a watch keeps.
use Rattle.std.specs.Prelude.{ℕ, List}
use Rattle.logical_clock.specs.declared.name.KeyName.{KeyName}
use Rattle.race_watch.specs.declared.seen.Seen.{Seen}

-- how many events were made; by thread how many it made, and how many of each thread it knows; by key how many the
-- last event with the key tells of; the accesses that leave the areas and the constants, in their order; and the
-- epochs of those in the areas, by cell
pub record WatchState : Type 0 where
  pub events : ℕ
  pub made : List ℕ
  pub rows : List (List ℕ)
  pub keys : List (KeyName × List ℕ)
  pub seen : List Seen
  pub epochs : List ℕ

-- What the clocks keep.
use Rattle.std.specs.Prelude.{ℕ, List}
use Rattle.logical_clock.specs.declared.name.KeyName.{KeyName}
use Rattle.logical_clock.specs.declared.keys.Counted.{Counted}

-- how many events were made; by thread the clock of its last event; and what is kept of each key that was
-- seen
pub record ClockState : Type 0 where
  pub events : ℕ
  pub threads : List ℕ
  pub keys : List (KeyName × Counted)

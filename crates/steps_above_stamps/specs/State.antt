-- What stamps keep.
use Rattle.std.specs.Prelude.{ℕ, List}
use Rattle.logical_clock.specs.State.{ClockState}

-- the clocks of events, and by thread how many steps it made since its last event
pub record StampsState : Type 0 where
  pub clocks : ClockState
  pub steps : List ℕ

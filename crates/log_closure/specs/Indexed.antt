-- What is true of the fields of every closed part.
use Rattle.std.specs.Prelude.{◌≡◌, ◌<◌, ◌^◌, ℕ, List, length, slice_index_or}
use Rattle.std.specs.List.{All}
use Rattle.std.specs.Global.{Vec}
use Rattle.run_events.specs.declared.event.Record.{Record}
use Rattle.log_closure.specs.declared.place.LogPlace.{LogPlace}
use Rattle.log_closure.specs.Chains.{CountUp}
use Rattle.log_closure.specs.Places.{events_at, thread_places}

-- the lists have for each thread the places of its events in the file, which are there and count up
pub record IsIndexed (records : List Record) (order : List LogPlace) (lists : List (Vec ℕ)) : Type 0 where
  pub few : length order < 2 ^ 32
  pub within : All (λ (p : LogPlace). p.at < length records) order
  pub wide : length lists ≡ 256
  pub listed : (t : ℕ) → t < 256 → (d : Vec ℕ) → (slice_index_or lists t d).items ≡ thread_places t order
  pub counts : CountUp (events_at records order)

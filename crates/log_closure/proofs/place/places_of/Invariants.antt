use Rattle.std.proofs.Common.{◌≡◌, ◌<◌, ℕ, take, get_or, length}
use Rattle.log_closure.specs.Events.{events_of, of_thread}
use Rattle.log_closure.specs.Places.{places_from}
use Rattle.log_closure.proofs.place.places_of.Given as goal

abbrev pub invariant-loop-at : goal.invariant-loop-at
invariant-loop-at l = record {
  wide : length l.counts ≡ 256;
  counts : (t : ℕ) → t < 256 → get_or l.counts t 0 ≡ of_thread t (take l.at l.records);
  places : l.places.items ≡ places_from 0 (events_of (take l.at l.records));
}

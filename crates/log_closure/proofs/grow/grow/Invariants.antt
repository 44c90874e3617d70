use Rattle.std.proofs.Common.{◌≡◌, ◌<◌, ◌≤◌, [], drop, length}
use Rattle.std.specs.List.{All}
use Rattle.log_closure.specs.declared.place.LogPlace.{LogPlace}
use Rattle.log_closure.specs.Tables.{IsGrown}
use Rattle.log_closure.specs.Growing.{grow}
use Rattle.log_closure.specs.Places.{events_at}
use Rattle.log_closure.proofs.grow.grow.Given as goal

abbrev pub invariant-loop-place : goal.invariant-loop-place
invariant-loop-place l = record {
  done : IsGrown l.grown (events_at l.records l.part.items);
  same : grow [] (events_at l.records l.order) ≡ grow (events_at l.records l.part.items) (events_at l.records (drop l.place-index l.order));
  within : All (λ (p : LogPlace). p.at < length l.records) l.part.items;
  few : length l.part.items ≤ l.place-index;
}

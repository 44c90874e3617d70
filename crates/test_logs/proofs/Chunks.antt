-- The two events can stand in a log.
use Rattle.std.proofs.Common.{◌≡◌, ◌<◌, ◌≤◌, ◌^◌, ℕ, List, [], ◌∷◌, ◌++◌, refl, sym, subst, arith}
use Rattle.run_events.specs.declared.key.Class.TheVariants.{Callback, Thread}
use Rattle.run_events.specs.declared.event.Event.TheVariants.{Up, UpRet}
use Rattle.run_events.specs.declared.event.Record.{Record}
use Rattle.log_codec.specs.LogText.{IsChunk, IsRecord}
use Rattle.log_codec.specs.Putting.{log_chunk}

-- a callback of function 16 begins, with these arguments
abbrev pub begins : List ℕ → Record
begins args = record {
  thread = 0;
  steps = 0;
  clock = 1;
  keys = (record { key = record { class = Callback; value = 16 }; ticket = 0 }) ∷ [];
  event = Up 16 args;
}

-- it returns 5
abbrev pub returned : Record
returned = record {
  thread = 0;
  steps = 4;
  clock = 2;
  keys = (record { key = record { class = Thread; value = 0 }; ticket = 0 }) ∷ [];
  event = UpRet 5;
}

begins_fits : IsRecord (begins [])
begins_fits = record {
  thread = omega arith;
  steps = omega arith;
  clock = omega arith;
  key_count = omega arith;
  keys = ((omega arith, omega arith), tt);
  body = (omega arith, omega arith, tt);
}

returned_fits : IsRecord returned
returned_fits = record {
  thread = omega arith;
  steps = omega arith;
  clock = omega arith;
  key_count = omega arith;
  keys = ((omega arith, omega arith), tt);
  body = omega arith;
}

-- so can a vector of both
pub fits : (v u w : List Record) (b r : Record) (args : List ℕ) → w ≡ [] → u ≡ w ++ b ∷ [] → v ≡ u ++ r ∷ [] → b ≡ begins args → r ≡ returned → args ≡ [] → IsChunk (log_chunk (record { thread = 0; records = v }))
fits v u w b r args none one two first second bare =
    let all : v ≡ begins [] ∷ returned ∷ [] = rw (two, one, none, first, second, bare) refl in
    subst (λ (x : List Record). IsChunk (log_chunk (record { thread = 0; records = x }))) (sym all)
    record { thread = omega arith; some = omega arith; few = omega arith; own = (refl, (refl, tt)); each = (begins_fits, (returned_fits, tt)) }

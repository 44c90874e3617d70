-- The run that has no marks yet.
use Rattle.std.proofs.Common.{[], refl}
use Rattle.race_watch.specs.Stands.{Stands}
use Rattle.replay_runs.proofs.Unseen.{fresh_whole}
use Rattle.steps_above_memory.specs.declared.above.MemoryAbove.{MemoryAbove}
use Rattle.steps_above_memory.specs.Above.{BeginsAbove}

pub begins : (above : MemoryAbove) → Stands [] above.watch → BeginsAbove above
begins above told program memory none stands = record {
  goes_well = record {
    calm = record { starts = fresh_whole memory none; steps = tt; race_free = λ a b in' in'' ne x e. absurd in'; in_order = tt; no_fault = refl };
    addresses = λ a in' x e. absurd in';
  };
  spaces = stands;
  watch = told;
}

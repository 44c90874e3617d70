-- Memory before a run.
use Rattle.std.proofs.Common.{◌≡◌, ℕ, [], None, sym, subst}
use Rattle.std.specs.Prelude.{All, replicate}
use Rattle.memory_map.specs.declared.areas.TheConstants.{THREADS, REPLAY_STACKS, REPLAY_POOL, SYSTEM_STACKS, SYSTEM_POOL}
use Rattle.memory_map.specs.declared.placed.Placed.{Placed}
use Rattle.race_watch.specs.Stands.{Stands}
use Rattle.space_memory_bytes.specs.Areas.{byte_at}
use Rattle.space_memory.specs.Sides.{fresh_side}
use Rattle.space_memory.specs.Spaces.{SpaceState}
use Rattle.space_memory.specs.Objects.{IsInArea, byte_of}
use Rattle.whole_runs_memory.specs.Stands.{StandsForWhole}
use Rattle.whole_runs_memory.proofs.Plain.{new_memory}
use Rattle.whole_runs_seen.proofs.Calm.{calm_run}
use Rattle.recorder_memory.specs.declared.memory.Memory.{Memory}
use Rattle.recorder_memory.specs.Stands.{BeginsRuns}

-- what `Spaces::new` gives for these objects
pub record IsNew (objects : Placed) (memory : SpaceState) : Type 0 where
  pub globals : All IsInArea objects.globals
  pub strings : All IsInArea objects.strings
  pub bytes : (x : ℕ) → byte_at memory.bytes x ≡ byte_of objects.strings x (byte_of objects.globals x None)
  pub held : memory.held ≡ record { regions = []; depths = replicate THREADS 0 }
  pub sides : memory.sides ≡ record { replay = fresh_side REPLAY_STACKS REPLAY_POOL; system = fresh_side SYSTEM_STACKS SYSTEM_POOL }

pub begins : (objects : Placed) (memory : Memory) → IsNew objects memory.above.spaces → Stands [] memory.above.watch → BeginsRuns objects memory
begins objects memory new told w fit are = record {
  whole = whole;
  above = record {
    goes_well = record { calm = calm_run w fit [] tt; addresses = λ a in' x e. absurd in' };
    spaces = whole.above;
    watch = told;
  };
}
  where
    new' : IsNew w.laid.placed memory.above.spaces
    new' = subst (λ o. IsNew o memory.above.spaces) (sym are) new

    whole : StandsForWhole w [] memory.above.spaces
    whole = new_memory w memory.above.spaces new'.globals new'.strings new'.bytes new'.held new'.sides

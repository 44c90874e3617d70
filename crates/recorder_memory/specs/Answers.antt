-- The pieces of an answer that come up with a Ret, one after the other.
use Rattle.std.specs.Prelude.{◌≡◌, ◌⊎◌, ℕ, ◌^◌, ◌<◌, ◌≤◌, true, List, [], length, get_or, map, take, MatchOption, Option, Some, None, option_map, unwrap_or}
use Rattle.marks.specs.declared.side.Side.TheVariants.{Replay}
use Rattle.marks.specs.declared.range.Range.{Range}
use Rattle.marks.specs.Marks.{Mark}
use Rattle.space_memory_bytes.specs.Numbers.{HasBytes, SameOutside}
use Rattle.space_memory_access.specs.declared.holder.Region.{Region}
use Rattle.space_memory_access.specs.declared.refusal.Refusal.TheVariants.{NoKey, Size}
use Rattle.space_memory_access.specs.Accesses.{IsAllowed}
use Rattle.space_memory_access.specs.Held.{innermost, prepared_region}
use Rattle.space_memory.specs.Spaces.{SpaceState}
use Rattle.space_memory.specs.Releases.{outs_of, AllFilled, FirstUnfilled, HasKey, LacksKey}
use Rattle.steps_above_memory.specs.declared.refusal.StepRefusal.{StepRefusal}
use Rattle.steps_above_memory.specs.Refusals.{IsFound, refusal_of}
use Rattle.whole_runs.specs.World.{World, interface}
use Rattle.whole_runs.specs.Below.{To, targets, pieces_for}
use Rattle.whole_runs.specs.Tests.{ret_checks}
use Rattle.whole_runs_memory.specs.Stands.{InStep}
use Rattle.whole_runs_memory.specs.Refusals.{access_below}
use Rattle.whole_runs_memory.specs.Rets.{AllFit, IsEnding}
use Rattle.recorder_memory.specs.declared.memory.Memory.{Memory}
use Rattle.recorder_memory.specs.Stands.{StandsForSeen, StandsForRun}
use Rattle.recorder_memory.specs.Returns.{IsAnswered}

-- ---- an answer

-- a call of the thread ends with an answer: so much of each region that it holds is used, this is committed,
-- and there is a piece for each target
pub record IsAnswer (w : World) (past : List Mark) (t func : ℕ) (args : List ℕ) (result : ℕ)
    (outs : List Range) (used : List ℕ) (committing : Option (ℕ × ℕ)) (pieces : List (List ℕ)) :
    Type 0 where
  pub ending : IsEnding w past t func args result used committing
  pub outs_are : (interface w).outs func args ≡ outs
  pub count : length pieces ≡ length (targets w Replay past func args result)

-- whatever run it is of, all its pieces stand in their regions
abbrev pub Answers : Memory → (thread : ℕ) → List Range → (used : List ℕ) → Option (ℕ × ℕ) →
    List (List ℕ) → Memory → Type 0
Answers old t outs used committing pieces new = (w : World) (past : List Mark) (func : ℕ)
    (args : List ℕ) (result : ℕ) → StandsForRun w past old →
    IsAnswer w past t func args result outs used committing pieces →
    IsAnswered w past func args result pieces new

-- whatever run it is of, the tests of its Ret find why it is refused
abbrev pub RefusesAnswer : Memory → (thread : ℕ) → List Range → (used : List ℕ) → Option (ℕ × ℕ) →
    List (List ℕ) → StepRefusal → Type 0
RefusesAnswer old t outs used committing pieces refusal = (w : World) (past : List Mark) (func : ℕ)
    (args : List ℕ) (result : ℕ) → StandsForRun w past old →
    IsAnswer w past t func args result outs used committing pieces →
    IsFound (ret_checks w past func args result pieces) refusal

-- ---- its parts

-- these regions have their pieces, none of which is too long
pub record IsPartly (w : World) (past : List Mark) (outs : List Range) (pieces : List (List ℕ))
    (memory : Memory) : Type 0 where
  pub fits : AllFit (map To outs) pieces
  pub step : InStep w past (pieces_for (map To outs) pieces) memory.above.spaces
  pub above : StandsForSeen w past memory

-- of the regions that the call holds the first so many have theirs, where the committed key is in use
abbrev pub PutsOuts : Memory → (thread : ℕ) → List Range → (used : List ℕ) → Option (ℕ × ℕ) →
    List (List ℕ) → (count : ℕ) → Memory → Type 0
PutsOuts old t outs used committing pieces n new = (w : World) (past : List Mark) (func : ℕ)
    (args : List ℕ) (result : ℕ) → StandsForRun w past old →
    IsAnswer w past t func args result outs used committing pieces →
    HasKey old.above.spaces.held.regions committing → IsPartly w past (take n outs) (take n pieces) new

-- where the key is in use
abbrev pub RefusesPut : Memory → (thread : ℕ) → List Range → (used : List ℕ) → Option (ℕ × ℕ) →
    List (List ℕ) → StepRefusal → Type 0
RefusesPut old t outs used committing pieces refusal =
    HasKey old.above.spaces.held.regions committing →
    RefusesAnswer old t outs used committing pieces refusal

-- ---- what the call holds

abbrev pub regions_of : SpaceState → (thread : ℕ) → List Region
regions_of memory t = outs_of (innermost memory.held t) memory.held.regions

-- of the first so many regions of the call each is filled up to its used size, or the first that isn't
-- begins at the address
abbrev pub IsFirstSpoiled : SpaceState → (thread : ℕ) → (used : List ℕ) → (count : ℕ) → Option ℕ → Type 0
IsFirstSpoiled memory t used n found = MatchOption found
    (AllFilled memory.bytes (take n (regions_of memory t)) used)
    (FirstUnfilled memory.bytes (take n (regions_of memory t)) used)

-- a piece that fits was written to the front of its region, as code below the cut may
pub record IsPut (old new : SpaceState) (t : ℕ) (r : Range) (bytes : List ℕ) : Type 0 where
  pub fits : length bytes ≤ r.len
  pub small : r.addr < 2 ^ 64
  pub allowed : IsAllowed old.bytes old.held.regions
      (access_below t true (record { addr = r.addr; len = length bytes }))
  pub written : HasBytes new.bytes r.addr bytes
  pub others : SameOutside (record { addr = r.addr; len = length bytes }) old.bytes new.bytes
  pub rest : new ≡ record old { bytes = new.bytes }

-- it doesn't fit: of the regions before it the first that is spoiled is shown, or else its own
pub record IsTooLong (memory : SpaceState) (t : ℕ) (used : List ℕ) (before : ℕ) (r : Range)
    (bytes : List ℕ) (refusal : StepRefusal) : Type 0 where
  pub long : r.len < length bytes
  pub found : Option ℕ
  pub spoiled : IsFirstSpoiled memory t used before found
  pub refusal_is : refusal ≡ refusal_of (Size (unwrap_or found r.addr))

-- or it fits, and code below the cut may not write it
pub record MayNotPut (memory : SpaceState) (t : ℕ) (r : Range) (bytes : List ℕ) : Type 0 where
  pub fits : length bytes ≤ r.len
  pub forbidden : ¬ IsAllowed memory.bytes memory.held.regions
      (access_below t true (record { addr = r.addr; len = length bytes }))

abbrev pub IsNotPut : SpaceState → (thread : ℕ) → (used : List ℕ) → (before : ℕ) → Range → List ℕ →
    StepRefusal → Type 0
IsNotPut memory t used before r bytes refusal = IsTooLong memory t used before r bytes refusal ⊎
    MayNotPut memory t r bytes

-- the region that is prepared under the committed key
abbrev pub committed_range : List Region → Option (ℕ × ℕ) → Option Range
committed_range regions None = None
committed_range regions (Some c) = option_map (λ r. r.range) (prepared_region regions c.0)

-- the committed key isn't in use
abbrev pub IsLacking : List Region → Option (ℕ × ℕ) → StepRefusal → Type 0
IsLacking regions committing refusal = (key : ℕ) × LacksKey regions committing key ×
    (refusal ≡ refusal_of (NoKey key))

-- the piece of the region that is committed, after so many others, was written, if there is one
abbrev pub PutsLast : Memory → (thread : ℕ) → (before : ℕ) → Option Range → List (List ℕ) → Memory → Type 0
PutsLast old t before region pieces new = MatchOption region (new ≡ old)
    (λ r. IsPut old.above.spaces new.above.spaces t r (get_or pieces before []) ×
    (new.above.watch ≡ old.above.watch))

-- or there is one, and it was not
abbrev pub RefusesLast : Memory → (thread : ℕ) → (used : List ℕ) → (before : ℕ) → Option Range →
    List (List ℕ) → StepRefusal → Type 0
RefusesLast memory t used before region pieces refusal = MatchOption region ⊥
    (λ r. IsNotPut memory.above.spaces t used before r (get_or pieces before []) refusal)

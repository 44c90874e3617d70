-- What is read of memory below the cut, range by range.
use Rattle.std.specs.Prelude.{◌≡◌, ◌⊎◌, ℕ, ◌^◌, ◌<◌, ◌++◌, false, List, All}
use Rattle.marks.specs.declared.range.Range.{Range}
use Rattle.marks.specs.Ranges.{Piece, piece_ranges}
use Rattle.replay_runs.specs.Records.{pieces_in_a_row}
use Rattle.space_memory_access.specs.declared.refusal.Refusal.{Refusal}
use Rattle.space_memory_access.specs.Accesses.{IsRefused}
use Rattle.space_memory.specs.Spaces.{SpaceState}
use Rattle.space_memory_laws.specs.Calls.{IsShown}
use Rattle.steps_above_memory.specs.declared.refusal.StepRefusal.{StepRefusal}
use Rattle.steps_above_memory.specs.declared.refusal.StepRefusal.TheVariants.{Memory}
use Rattle.steps_above_memory.specs.Refusals.{refusal_of}
use Rattle.whole_runs_memory.specs.Refusals.{access_below, MayRead}

-- code of the thread may read the piece, whose bytes stand in memory
pub record IsRead (memory : SpaceState) (t : ℕ) (p : Piece) : Type 0 where
  pub may : MayRead memory t p.range
  pub shown : IsShown memory.bytes p

-- the bytes of one more range
abbrev pub ReadsOn : SpaceState → (thread : ℕ) → Range → (old new : List ℕ) → Type 0
ReadsOn memory t range old new = (read : List ℕ) × IsRead memory t (record { range = range; bytes = read }) ×
    (new ≡ old ++ read)

-- memory refuses to have it read
pub record IsUnread (memory : SpaceState) (t : ℕ) (range : Range) (refusal : StepRefusal) : Type 0 where
  pub small : range.addr < 2 ^ 64
  pub cause : Refusal
  pub refused : IsRefused memory.bytes memory.held.regions (access_below t false range) cause
  pub refusal_is : refusal ≡ refusal_of cause

-- so it does, or there is no memory for its bytes
abbrev pub RefusesOn : SpaceState → (thread : ℕ) → Range → StepRefusal → Type 0
RefusesOn memory t range refusal = (refusal ≡ Memory) ⊎ IsUnread memory t range refusal

-- these ranges were read, in a row
pub record AreRead (memory : SpaceState) (t : ℕ) (ranges : List Range) (bytes : List ℕ) : Type 0 where
  pub pieces : List Piece
  pub ranges_are : piece_ranges pieces ≡ ranges
  pub read : All (IsRead memory t) pieces
  pub bytes_are : pieces_in_a_row pieces ≡ bytes

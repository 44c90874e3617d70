-- Below the cut the tests of a step find exactly what memory refuses, in the same order.
use Rattle.std.specs.Prelude.{◌≡◌, ◌↔◌, ℕ, suc, ◌^◌, ◌<◌, ◌≤◌, Bool, true, false, List, [], ◌∷◌, ◌++◌, length, All}
use Rattle.marks.specs.declared.side.Side.TheVariants.{System}
use Rattle.marks.specs.declared.fault.FaultKind.TheVariants.{NotLive}
use Rattle.marks.specs.Places.{thread_count}
use Rattle.marks.specs.declared.range.Range.{Range}
use Rattle.marks.specs.Ranges.{Piece}
use Rattle.marks.specs.Marks.{Mark}
use Rattle.space_memory_access.specs.declared.access.Access.{Access}
use Rattle.space_memory_access.specs.declared.refusal.Refusal.{Refusal}
use Rattle.space_memory_access.specs.Accesses.{IsAllowed, IsRefused}
use Rattle.space_memory.specs.StackFrames.{stack_of}
use Rattle.space_memory.specs.Spaces.{SpaceState, side_of}
use Rattle.space_memory.specs.Frames.{IsEnterRefused}
use Rattle.space_memory.specs.Blocks.{IsFreeRefused}
use Rattle.space_memory_laws.specs.Refusals.{finding_of}
use Rattle.replay_runs.specs.Checks.{Finding, FaultFound, Checks, Done, Passes, Finds}
use Rattle.whole_runs.specs.World.{World}
use Rattle.whole_runs.specs.Below.{touch_checks, read_checks, Target, To, Nowhere, Missing}
use Rattle.whole_runs.specs.Tests.{full_check, free_checks, piece_checks}
use Rattle.whole_runs_memory.specs.Stands.{StandsForWhole, InStep}

-- code of a thread below the cut reads or writes a range
abbrev pub access_below : ℕ → Bool → Range → Access
access_below thread write r = record { side = System; thread = thread; range = r; write = write }

-- the checks find what memory refuses, and nothing else, and pass exactly where it allows the call
pub record FindRefusals (Refused : Refusal → Type 0) (Allowed : Type 0) (cs : Checks) : Type 0 where
  pub of_refused : (r : Refusal) → Refused r → Finds cs (finding_of r)
  pub of_found : (f : Finding) → Finds cs f → (r : Refusal) × Refused r × (f ≡ finding_of r)
  pub passes : Passes cs ↔ Allowed

-- nothing is refused
abbrev pub NoneRefused : (Refusal → Type 0) → Type 0
NoneRefused Refused = (r : Refusal) → ¬ Refused r

-- so the tests of a load or store do
abbrev pub TouchRefusalsAreFindings : World → Type 0
TouchRefusalsAreFindings w =
    (past : List Mark) (memory : SpaceState) (t : ℕ) (write : Bool) (r : Range) →
    StandsForWhole w past memory →
    t < thread_count →
    r.addr < 2 ^ 64 →
    FindRefusals (IsRefused memory.bytes memory.held.regions (access_below t write r))
    (IsAllowed memory.bytes memory.held.regions (access_below t write r)) (touch_checks w past t write r Done)

-- those of a frame
abbrev pub IsEnterRefusedBelow : SpaceState → (thread size : ℕ) → Refusal → Type 0
IsEnterRefusedBelow memory t size = IsEnterRefused (stack_of (side_of memory.sides System).stacks t) size

abbrev pub FullStacksBelowAreFound : World → Type 0
FullStacksBelowAreFound w =
    (past : List Mark) (memory : SpaceState) (t size : ℕ) →
    StandsForWhole w past memory →
    t < thread_count →
    FindRefusals (IsEnterRefusedBelow memory t size) (NoneRefused (IsEnterRefusedBelow memory t size))
    (full_check w past t size)

-- and those of `r2_free` at an address other than NULL
abbrev pub IsFreeRefusedBelow : SpaceState → (at : ℕ) → Refusal → Type 0
IsFreeRefusedBelow memory at =
    IsFreeRefused System (side_of memory.sides System).pool.blocks memory.held.regions at

abbrev pub FreeRefusalsBelowAreFindings : World → Type 0
FreeRefusalsBelowAreFindings w =
    (past : List Mark) (memory : SpaceState) (at : ℕ) →
    StandsForWhole w past memory →
    FindRefusals (IsFreeRefusedBelow memory (suc at)) (NoneRefused (IsFreeRefusedBelow memory (suc at)))
    (free_checks w past (suc at))

-- ---- ranges one after the other

-- code below the cut may read the range
abbrev pub MayRead : SpaceState → ℕ → Range → Type 0
MayRead memory t r = (r.addr < 2 ^ 64) × IsAllowed memory.bytes memory.held.regions (access_below t false r)

-- of ranges that are read the first one that is refused is found
abbrev pub RefusedReadsBelowAreFound : World → Type 0
RefusedReadsBelowAreFound w =
    (past : List Mark) (memory : SpaceState) (t : ℕ) (before after : List Range) (r : Range) (f : Refusal) →
    StandsForWhole w past memory →
    t < thread_count →
    All (MayRead memory t) before →
    r.addr < 2 ^ 64 →
    IsRefused memory.bytes memory.held.regions (access_below t false r) f →
    Finds (read_checks w past t (before ++ r ∷ after)) (finding_of f)

-- and where none is, they pass
abbrev pub ReadsBelowPass : World → Type 0
ReadsBelowPass w =
    (past : List Mark) (memory : SpaceState) (t : ℕ) (rs : List Range) →
    StandsForWhole w past memory →
    t < thread_count →
    All (MayRead memory t) rs →
    Passes (read_checks w past t rs)

-- ---- pieces one after the other, each written before the next is tested

-- of the pieces so far none was refused; the tests go on with this one
pub record IsAtPiece (w : World) (past : List Mark) (t : ℕ) (xs : List Target) (bs : List (List ℕ))
    (pieces : List Piece) (memory : SpaceState) : Type 0 where
  pub step : InStep w past pieces memory
  pub thread : t < thread_count
  pub count : length xs ≡ length bs
  pub passed : Passes (piece_checks w past t xs bs)

-- a piece that memory refuses is found
abbrev pub RefusedPiecesAreFound : World → Type 0
RefusedPiecesAreFound w =
    (past : List Mark) (memory : SpaceState) (t : ℕ) (xs more : List Target) (bs rest : List (List ℕ))
    (pieces : List Piece) (r : Range) (b : List ℕ) (f : Refusal) →
    IsAtPiece w past t xs bs pieces memory →
    r.addr < 2 ^ 64 →
    length b ≤ r.len →
    IsRefused memory.bytes memory.held.regions
    (access_below t true (record { addr = r.addr; len = length b })) f →
    Finds (piece_checks w past t (xs ++ To r ∷ more) (bs ++ b ∷ rest)) (finding_of f)

-- so is one that has no region, or is longer than that
abbrev pub LongPiecesAreFound : World → Type 0
LongPiecesAreFound w =
    (past : List Mark) (memory : SpaceState) (t : ℕ) (xs more : List Target) (bs rest : List (List ℕ))
    (pieces : List Piece) (r : Range) (b : List ℕ) →
    IsAtPiece w past t xs bs pieces memory →
    r.len < length b →
    Finds (piece_checks w past t (xs ++ To r ∷ more) (bs ++ b ∷ rest)) (FaultFound NotLive)

abbrev pub MissingRegionsAreFound : World → Type 0
MissingRegionsAreFound w =
    (past : List Mark) (memory : SpaceState) (t : ℕ) (xs more : List Target) (bs rest : List (List ℕ))
    (pieces : List Piece) (b : List ℕ) →
    IsAtPiece w past t xs bs pieces memory →
    Finds (piece_checks w past t (xs ++ Missing ∷ more) (bs ++ b ∷ rest)) (FaultFound NotLive)

-- one that is written passes, and so does one that goes nowhere
abbrev pub WrittenPiecesPass : World → Type 0
WrittenPiecesPass w =
    (past : List Mark) (memory : SpaceState) (t : ℕ) (xs : List Target) (bs : List (List ℕ))
    (pieces : List Piece) (r : Range) (b : List ℕ) →
    IsAtPiece w past t xs bs pieces memory →
    r.addr < 2 ^ 64 →
    length b ≤ r.len →
    IsAllowed memory.bytes memory.held.regions
    (access_below t true (record { addr = r.addr; len = length b })) →
    Passes (piece_checks w past t (xs ++ To r ∷ []) (bs ++ b ∷ []))

abbrev pub PiecesToNowherePass : World → Type 0
PiecesToNowherePass w =
    (past : List Mark) (memory : SpaceState) (t : ℕ) (xs : List Target) (bs : List (List ℕ))
    (pieces : List Piece) (b : List ℕ) →
    IsAtPiece w past t xs bs pieces memory →
    Passes (piece_checks w past t (xs ++ Nowhere ∷ []) (bs ++ b ∷ []))

-- The tests of a Ret find what memory refuses of its release, once the pieces of the answer are written.
use Rattle.std.specs.Prelude.{◌≡◌, ℕ, ◌<◌, ◌≤◌, Bool, List, [], ◌∷◌, ◌++◌, length, map, take, Option, Some, None}
use Rattle.marks.specs.declared.breach.BreachKind.TheVariants as breach
use Rattle.marks.specs.Places.{thread_count}
use Rattle.marks.specs.declared.range.Range.{Range}
use Rattle.marks.specs.Ranges.{Piece}
use Rattle.marks.specs.Marks.{Mark}
use Rattle.space_memory_access.specs.declared.holder.Region.{Region}
use Rattle.space_memory_access.specs.Held.{innermost}
use Rattle.space_memory_access.specs.Accesses.{IsAllowed}
use Rattle.space_memory.specs.Spaces.{SpaceState}
use Rattle.space_memory.specs.Releases.{outs_of, AllFilled, FirstUnfilled, LacksKey, AllReturned, HasKey, IsReleaseRefused}
use Rattle.space_memory_laws.specs.Returns.{AreUsedSizes, IsCommitted}
use Rattle.replay_runs.specs.Runs.{marks_of}
use Rattle.replay_runs.specs.Threads.{open_calls}
use Rattle.replay_runs.specs.Pool.{in_use}
use Rattle.replay_runs.specs.Rules.{Closes}
use Rattle.replay_runs.specs.Checks.{BreachFound, Finds}
use Rattle.marks.specs.declared.side.Side.TheVariants.{Replay}
use Rattle.whole_runs.specs.World.{World, begin, interface}
use Rattle.whole_runs.specs.Sides.{seen}
use Rattle.whole_runs.specs.Below.{Target, To, Nowhere, Missing, targets, pieces_for}
use Rattle.whole_runs.specs.Tests.{ret_checks}
use Rattle.whole_runs_memory.specs.Stands.{StandsForWhole, InStep}
use Rattle.whole_runs_memory.specs.Refusals.{access_below, FindRefusals}

-- no piece is longer than its region
abbrev pub AllFit : List Target → List (List ℕ) → Type 0
AllFit [] bs = Unit {0}
AllFit (x ∷ xs) [] = Unit {0}
AllFit (To r ∷ xs) (b ∷ bs) = (length b ≤ r.len) × AllFit xs bs
AllFit (Nowhere ∷ xs) (b ∷ bs) = AllFit xs bs
AllFit (Missing ∷ xs) (b ∷ bs) = AllFit xs bs

-- the thread ends its innermost call, of this function, with a result, and tells memory the used sizes and
-- what is committed
pub record IsEnding (w : World) (past : List Mark) (t func : ℕ) (args : List ℕ) (result : ℕ) (used : List ℕ)
    (committing : Option (ℕ × ℕ)) : Type 0 where
  pub thread : t < thread_count
  pub closes : Closes (open_calls (marks_of (begin w) t (seen past))) func args ((interface w).outs func args)
  pub sizes : AreUsedSizes ((interface w).outs func args) used ((interface w).used func args result)
  pub committed : IsCommitted ((interface w).commits func args result) committing

-- memory takes the release
abbrev pub IsRetAllowed : SpaceState → ℕ → List ℕ → Option (ℕ × ℕ) → Type 0
IsRetAllowed memory t used committing = HasKey memory.held.regions committing ×
    AllReturned memory.bytes memory.held.regions (innermost memory.held t) used committing

-- with the pieces of an answer, none of which is too long, in their regions
abbrev pub RetRefusalsAreFindings : World → Type 0
RetRefusalsAreFindings w =
    (past : List Mark) (memory : SpaceState) (t func : ℕ) (args : List ℕ) (result : ℕ) (used : List ℕ)
    (committing : Option (ℕ × ℕ)) (pieces : List (List ℕ)) →
    InStep w past (pieces_for (targets w Replay past func args result) pieces) memory →
    AllFit (targets w Replay past func args result) pieces →
    IsEnding w past t func args result used committing →
    FindRefusals
    (IsReleaseRefused memory.bytes memory.held.regions (innermost memory.held t) used committing)
    (IsRetAllowed memory t used committing) (ret_checks w past func args result pieces)

-- of a function with a body, which has no pieces
abbrev pub BodyRetRefusalsAreFindings : World → Type 0
BodyRetRefusalsAreFindings w =
    (past : List Mark) (memory : SpaceState) (t func : ℕ) (args : List ℕ) (result : ℕ) (used : List ℕ)
    (committing : Option (ℕ × ℕ)) →
    StandsForWhole w past memory →
    IsEnding w past t func args result used committing →
    FindRefusals
    (IsReleaseRefused memory.bytes memory.held.regions (innermost memory.held t) used committing)
    (IsRetAllowed memory t used committing) (ret_checks w past func args result [])

-- ---- the pieces of an answer

-- the front of a region that the Ret gives back may be read below the cut, and written
abbrev pub RegionsMayBeTouched : World → Type 0
RegionsMayBeTouched w =
    (past : List Mark) (memory : SpaceState) (t func : ℕ) (args : List ℕ) (result : ℕ) (used : List ℕ)
    (committing : Option (ℕ × ℕ)) (answer : List Piece) (xs more : List Target) (write : Bool)
    (r : Range) (n : ℕ) →
    InStep w past answer memory →
    IsEnding w past t func args result used committing →
    targets w Replay past func args result ≡ xs ++ To r ∷ more →
    n ≤ r.len →
    IsAllowed memory.bytes memory.held.regions (access_below t write (record { addr = r.addr; len = n }))

-- a key that isn't in use is found before all else, whatever the pieces are
abbrev pub LackingKeysAreFound : World → Type 0
LackingKeysAreFound w =
    (past : List Mark) (memory : SpaceState) (t func : ℕ) (args : List ℕ) (result : ℕ) (used : List ℕ)
    (committing : Option (ℕ × ℕ)) (answer : List Piece) (pieces : List (List ℕ)) (key : ℕ) →
    InStep w past answer memory →
    IsEnding w past t func args result used committing →
    LacksKey memory.held.regions committing key →
    Finds (ret_checks w past func args result pieces) (BreachFound breach.NoKey key None)

-- where a piece is too long for its region, which begins at an address, the regions before it decide first:
-- the first that isn't filled up to its used size, or else that one
pub record LongPieceIsFound (w : World) (past : List Mark) (func : ℕ) (args : List ℕ) (result : ℕ)
    (pieces : List (List ℕ)) (memory : SpaceState) (before : List Region) (used : List ℕ) (addr : ℕ) :
    Type 0 where
  pub unfilled : (x : ℕ) → FirstUnfilled memory.bytes before used x →
      Finds (ret_checks w past func args result pieces) (BreachFound breach.Size x None)
  pub filled : AllFilled memory.bytes before used →
      Finds (ret_checks w past func args result pieces) (BreachFound breach.Size addr None)

-- the piece of a region that the call holds. Those before it are written
abbrev pub LongPiecesOfRegionsAreFound : World → Type 0
LongPiecesOfRegionsAreFound w =
    (past : List Mark) (memory : SpaceState) (t func : ℕ) (args : List ℕ) (result : ℕ) (used : List ℕ)
    (committing : Option (ℕ × ℕ)) (before after : List Range) (r : Range) (bs rest : List (List ℕ))
    (b : List ℕ) →
    InStep w past (pieces_for (map To before) bs) memory →
    IsEnding w past t func args result used committing →
    HasKey memory.held.regions committing →
    (interface w).outs func args ≡ before ++ r ∷ after →
    length before ≡ length bs →
    AllFit (map To before) bs →
    r.len < length b →
    LongPieceIsFound w past func args result (bs ++ b ∷ rest) memory
    (take (length before) (outs_of (innermost memory.held t) memory.held.regions)) used r.addr

-- the piece of the region that is committed
abbrev pub LongCommittedPiecesAreFound : World → Type 0
LongCommittedPiecesAreFound w =
    (past : List Mark) (memory : SpaceState) (t func : ℕ) (args : List ℕ) (result : ℕ) (used : List ℕ)
    (committing : Option (ℕ × ℕ)) (key size : ℕ) (r : Range) (bs rest : List (List ℕ)) (b : List ℕ) →
    InStep w past (pieces_for (map To ((interface w).outs func args)) bs) memory →
    IsEnding w past t func args result used committing →
    (interface w).commits func args result ≡ Some (record { key = key; used = Some size }) →
    in_use (begin w) key (seen past) ≡ Some r →
    length ((interface w).outs func args) ≡ length bs →
    AllFit (map To ((interface w).outs func args)) bs →
    r.len < length b →
    LongPieceIsFound w past func args result (bs ++ b ∷ rest) memory
    (outs_of (innermost memory.held t) memory.held.regions) used r.addr

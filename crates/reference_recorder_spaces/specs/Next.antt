-- The mark that a run makes next, in the words of replay runs, and what is done in memory for it.
use Rattle.std.specs.Prelude.{◌≡◌, ℕ, ◌==◌, ◌<◌, Bool, true, false, ◌&&◌, List, [], ◌∷◌, ◌++◌, map, length, All, Option, Some, None}
use Rattle.std.specs.List.{list_any}
use Rattle.marks.specs.Places.{thread_count, is_constant, is_system}
use Rattle.marks.specs.declared.range.Range.{Range}
use Rattle.marks.specs.Ranges.{Piece, any_range, covers, piece_ranges}
use Rattle.marks.specs.Marks.{Act, Commit, Event, EventKind, Made, Mark, NoRegion, Released, Withheld}
use Rattle.space_memory_bytes.specs.Areas.{byte_at}
use Rattle.space_memory_bytes.specs.Numbers.{HasBytes}
use Rattle.replay_runs.specs.Runs.{Start, Allowed, marks_of}
use Rattle.replay_runs.specs.Interface.{Program}
use Rattle.replay_runs.specs.Threads.{frames}
use Rattle.replay_runs.specs.Rules.{Apart, replay_rules}
use Rattle.replay_runs.specs.Unseen.{LeavesFirst}
use Rattle.space_memory_access.specs.Held.{prepared_region}
use Rattle.space_memory.specs.Held.{region_range}
use Rattle.space_memory.specs.Spaces.{SpaceState}
use Rattle.space_memory_laws.specs.Calls.{Holds, InCall, IsFree, Part, Prepares, Reads, is_written, range_of}
use Rattle.space_memory_laws.specs.Returns.{FitsIn}
use Rattle.space_memory_laws.specs.Rights.{IsHandedDown}
use Rattle.space_memory_laws.specs.Shown.{value_when_held}
use Rattle.space_memory_laws.specs.StandsFor.{StandsFor}
use Rattle.reference_recorder_marks.specs.Marks.{without_origin}

-- each byte that is pending is still what it was when it was held
abbrev pub IsUntouched : SpaceState → Type 0
IsUntouched memory = (x v : ℕ) → value_when_held memory.held.regions x ≡ Some v →
    byte_at memory.bytes x ≡ Some v

-- memory, untouched so far, stands for a run in which the thread may do this next, but for the global that
-- a path begins with
pub record IsNext (memory : SpaceState) (thread : ℕ) (act : Act) : Type 0 where
  pub program : Program
  pub start : Start
  pub past : List Mark
  pub stands : StandsFor start past memory
  pub untouched : IsUntouched memory
  pub mark : Mark
  pub of_thread : mark.thread ≡ thread
  pub same : without_origin mark.act ≡ act
  pub allowed : Allowed (replay_rules program start) start past mark
  pub first : LeavesFirst mark.act (frames (marks_of start mark.thread past))

-- then memory stands for the run with it, and is untouched still
abbrev pub IsDone : (old : SpaceState) → (thread : ℕ) → Act → (new : SpaceState) → Type 0
IsDone old t act new = (n : IsNext old t act) → StandsFor n.start (n.mark ∷ n.past) new × IsUntouched new

-- the same of an event of this kind
abbrev pub IsKindNext : SpaceState → (thread : ℕ) → EventKind → Type 0
IsKindNext memory t kind = (e : Event) × (e.kind ≡ kind) × IsNext memory t (Made e)

abbrev pub MakesKind : (old : SpaceState) → (thread : ℕ) → EventKind → (new : SpaceState) → Type 0
MakesKind old t kind new = (e : Event) → e.kind ≡ kind → IsDone old t (Made e) new

-- ---- a Call

-- the range of a region: that of a NULL pointer is empty
abbrev pub IsRegion : Range → Type 0
IsRegion r = region_range r ≡ r

-- the Call that the thread makes has these parts besides
abbrev pub Adds : (thread : ℕ) → List Part → (old new : SpaceState) → Type 0
Adds t more old new = (s : Start) (past : List Mark) (base : SpaceState) (parts : List Part) →
    InCall s past t parts base old → InCall s past t (parts ++ more) base new

-- a part has the byte, and one has it that is written
abbrev pub has_byte : ℕ → Part → Bool
has_byte x p = covers (range_of p) x

abbrev pub writes_byte : ℕ → Part → Bool
writes_byte x p = is_written p && covers (range_of p) x

-- a part prepares its range under the key
abbrev pub takes_key : ℕ → Part → Bool
takes_key k (Reads r) = false
takes_key k (Holds r) = false
takes_key k (Prepares j r) = j == k

-- no part has a byte that one before it writes, or a key of one before it
abbrev pub AreApart : List Part → Type 0
AreApart [] = Unit {0}
AreApart (p ∷ ps) = ((x : ℕ) → writes_byte x p ≡ true → list_any (has_byte x) ps ≡ false) ×
    ((k : ℕ) → takes_key k p ≡ true → list_any (takes_key k) ps ≡ false) × AreApart ps

-- memory refuses none of the parts of a Call
pub record AreFree (memory : SpaceState) (parts : List Part) : Type 0 where
  pub ranges : All (IsFree memory) parts
  pub apart : AreApart parts
  pub keys : (k : ℕ) → list_any (takes_key k) parts ≡ true → prepared_region memory.held.regions k ≡ None

-- the Call that the thread makes has these parts next
pub record IsNextPart (t : ℕ) (more : List Part) (memory : SpaceState) : Type 0 where
  pub start : Start
  pub past : List Mark
  pub base : SpaceState
  pub before : List Part
  pub call : InCall start past t before base memory
  pub free : AreFree base (before ++ more)

-- ---- a Ret

-- where the bytes of a piece lie, the first of its range
abbrev pub filled_range : Piece → Range
filled_range p = record { addr = p.range.addr; len = length p.bytes }

-- memory has the bytes of each piece, and no other was changed: the run doesn't see them yet
pub record HasPieces (s : Start) (past : List Mark) (pieces : List Piece) (old new : SpaceState) :
    Type 0 where
  pub stands : StandsFor s past new
  pub held : new.held ≡ old.held
  pub bytes : All (λ p. HasBytes new.bytes p.range.addr p.bytes) pieces
  pub others : (x : ℕ) → any_range (map filled_range pieces) x ≡ false →
      byte_at new.bytes x ≡ byte_at old.bytes x

-- so it is after code of the thread below the cut wrote pieces that fit in their ranges, which don't meet
abbrev pub Puts : (thread : ℕ) → List Piece → (old new : SpaceState) → Type 0
Puts t pieces old new = (s : Start) (past : List Mark) → StandsFor s past old → All FitsIn pieces →
    Apart (piece_ranges pieces) → HasPieces s past pieces old new

-- code of the thread below the cut may write a piece, which fits in its range
pub record IsGiven (s : Start) (past : List Mark) (t : ℕ) (p : Piece) : Type 0 where
  pub fits : FitsIn p
  pub own : (x : ℕ) → covers p.range x ≡ true → is_system x ≡ false
  pub writable : (x : ℕ) → covers p.range x ≡ true → is_constant x ≡ false
  pub handed : (x : ℕ) → covers p.range x ≡ true → IsHandedDown s past t true x

-- the Ret that the thread makes gives these pieces next
pub record AreGiven (t : ℕ) (pieces : List Piece) (memory : SpaceState) : Type 0 where
  pub start : Start
  pub past : List Mark
  pub thread : t < thread_count
  pub stands : StandsFor start past memory
  pub each : All (IsGiven start past t) pieces
  pub apart : Apart (piece_ranges pieces)

-- what is committed with a Ret, and how many bytes of it are used
abbrev pub committing : Commit → Option (ℕ × ℕ)
committing NoRegion = None
committing Withheld = None
committing (Released k p) = Some (k, length p.bytes)

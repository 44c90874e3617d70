-- What code above the cut does to memory: a call that is a mark of the replay run is one of the whole run.
use Rattle.std.specs.Prelude.{◌≡◌, ℕ, ◌^◌, ◌<◌, true, List, ◌∷◌, ◌++◌, Option, All}
use Rattle.run_events.specs.declared.key.Class.TheVariants.{Pool}
use Rattle.marks.specs.declared.side.Side.TheVariants.{Replay}
use Rattle.marks.specs.Places.{thread_count}
use Rattle.marks.specs.declared.range.Range.{Range}
use Rattle.marks.specs.Ranges.{Piece, Prepared, any_piece, piece_ranges, bytes_of_number}
use Rattle.marks.specs.Marks.{Commit, released, Call, Alloc, Free, Store, Enter, Leave, Event, Made, Mark}
use Rattle.run_events.specs.declared.key.Class.TheVariants.{Async}
use Rattle.space_memory_access.specs.declared.refusal.Refusal.{Refusal}
use Rattle.space_memory.specs.Sides.{top_of}
use Rattle.space_memory.specs.Spaces.{SpaceState, side_of}
use Rattle.space_memory.specs.Frames.{IsLeaveRefused}
use Rattle.space_memory.specs.Blocks.{IsFreeRefused}
use Rattle.space_memory_laws.specs.Calls.{parts_of, InCall, IsShown}
use Rattle.space_memory_laws.specs.Returns.{ShowUsed, ShowsRet}
use Rattle.replay_runs.specs.Runs.{OfKey, has}
use Rattle.replay_runs.specs.Keys.{key}
use Rattle.replay_runs.specs.Pool.{prepares_key}
use Rattle.replay_runs.specs.Rules.{Commits}
use Rattle.replay_runs.specs.Returns.{ReleasesInUse}
use Rattle.whole_runs.specs.World.{World, begin, interface}
use Rattle.whole_runs.specs.Sides.{seen, place_on}
use Rattle.whole_runs.specs.Memory.{real, filled, HasAll}
use Rattle.whole_runs.specs.Below.{targets, pieces_for}
use Rattle.whole_runs_memory.specs.Stands.{StandsForWhole, InStep}
use Rattle.space_memory_laws.specs.Changes.{IsStored, IsEntered, IsLeft, IsTaken, GivesNone, IsGivenBack, IsReleased}

-- a store
abbrev pub StoresAboveAreWhole : World → Type 0
StoresAboveAreWhole w =
    (past : List Mark) (old new : SpaceState) (m : Mark) (origin : Option ℕ)
    (thread addr width value : ℕ) →
    StandsForWhole w past old →
    m.side ≡ Replay →
    addr < 2 ^ 64 →
    IsStored Replay old new thread addr width value →
    m.act ≡ Store origin addr (bytes_of_number width value) →
    StandsForWhole w (m ∷ past) new

-- a frame that lies where the run has it
pub record IsEnterAbove (w : World) (past : List Mark) (m : Mark) (addr : ℕ) (new : SpaceState) : Type 0 where
  pub place : addr ≡ place_on w Replay m.thread past
  pub stands : StandsForWhole w (m ∷ past) new

abbrev pub EntersAboveAreWhole : World → Type 0
EntersAboveAreWhole w =
    (past : List Mark) (old new : SpaceState) (m : Mark) (func : ℕ) (args bytes : List ℕ)
    (addr size : ℕ) →
    StandsForWhole w past old →
    m.side ≡ Replay →
    m.thread < thread_count →
    IsEntered Replay old new m.thread addr size bytes →
    m.act ≡ Enter func args addr bytes →
    IsEnterAbove w past m addr new

-- the end of a frame
abbrev pub LeavesAboveAreWhole : World → Type 0
LeavesAboveAreWhole w =
    (past : List Mark) (old new : SpaceState) (m : Mark) (frame : Range) →
    StandsForWhole w past old →
    m.side ≡ Replay →
    m.thread < thread_count →
    ((r : Refusal) → ¬ IsLeaveRefused Replay old.held.regions (top_of (side_of old.sides Replay) m.thread)
    r) →
    IsLeft Replay old new m.thread frame →
    m.act ≡ Leave frame.addr frame.len →
    StandsForWhole w (m ∷ past) new

-- a block that is given
abbrev pub AllocsAboveAreWhole : World → Type 0
AllocsAboveAreWhole w =
    (past : List Mark) (old new : SpaceState) (m : Mark) (e : Event) (size addr : ℕ) →
    StandsForWhole w past old →
    m.side ≡ Replay →
    IsTaken Replay old new size addr →
    m.act ≡ Made e →
    e.kind ≡ Alloc addr size →
    has m (OfKey (key Pool 0)) ≡ true →
    StandsForWhole w (m ∷ past) new

-- one that isn't given
abbrev pub RefusedAllocsAboveAreWhole : World → Type 0
RefusedAllocsAboveAreWhole w =
    (past : List Mark) (memory : SpaceState) (m : Mark) (e : Event) (size : ℕ) →
    StandsForWhole w past memory →
    m.side ≡ Replay →
    GivesNone Replay memory size →
    m.act ≡ Made e →
    e.kind ≡ Alloc 0 size →
    StandsForWhole w (m ∷ past) memory

-- one that is freed
abbrev pub FreesAboveAreWhole : World → Type 0
FreesAboveAreWhole w =
    (past : List Mark) (old new : SpaceState) (m : Mark) (e : Event) (addr size : ℕ) →
    StandsForWhole w past old →
    m.side ≡ Replay →
    IsGivenBack Replay old new addr size →
    ((r : Refusal) → ¬ IsFreeRefused Replay (side_of old.sides Replay).pool.blocks old.held.regions addr
    r) →
    m.act ≡ Made e →
    e.kind ≡ Free addr size →
    has m (OfKey (key Pool 0)) ≡ true →
    StandsForWhole w (m ∷ past) new

abbrev pub FreesOfNullAboveAreWhole : World → Type 0
FreesOfNullAboveAreWhole w =
    (past : List Mark) (memory : SpaceState) (m : Mark) (e : Event) → StandsForWhole w past memory →
    m.side ≡ Replay → m.act ≡ Made e → e.kind ≡ Free 0 0 → StandsForWhole w (m ∷ past) memory

-- a Call with all its parts: what it holds has its value still
abbrev pub CallsAboveAreWhole : World → Type 0
CallsAboveAreWhole w =
    (past : List Mark) (base new : SpaceState) (m : Mark) (e : Event) (func : ℕ) (args : List ℕ)
    (ins : List Piece) (outs : List Range) (prepared : List Prepared) →
    StandsForWhole w past base →
    m.side ≡ Replay →
    InCall (begin w) (seen past) m.thread (parts_of (piece_ranges ins) outs prepared) base new →
    m.act ≡ Made e →
    e.kind ≡ Call func args ins outs prepared →
    All (IsShown base.bytes) ins →
    ((k : ℕ) → prepares_key prepared k ≡ true → has m (OfKey (key Async k)) ≡ true) →
    StandsForWhole w (m ∷ past) new

-- ---- Rets

-- a release in the midst of a step, after the pieces of an answer were written, of which each lies in a
-- region that the Ret gives back. Past its used size a piece has left what was there when the region was
-- held, whether or not code below the cut had changed that
abbrev pub ReturnsAreWhole : World → Type 0
ReturnsAreWhole w =
    (past : List Mark) (old new : SpaceState) (m : Mark) (func : ℕ) (args : List ℕ) (pieces : List Piece)
    (commit : Commit) (used : List ℕ) (committing : Option (ℕ × ℕ)) (answer : List Piece) →
    InStep w past answer old →
    m.side ≡ Replay →
    m.thread < thread_count →
    IsReleased old new m.thread used committing →
    ShowsRet (begin w) (seen past) old m func args pieces commit used committing →
    ((x : ℕ) → any_piece answer x ≡ true → any_piece (pieces ++ released commit) x ≡ true) →
    StandsForWhole w (m ∷ past) new

-- what a Ret brings up is there once the pieces of the answer are; a function with a body has none
abbrev pub RetsBringWhatIsThere : World → Type 0
RetsBringWhatIsThere w =
    (past : List Mark) (memory : SpaceState) (answer up : List Piece) (used : List ℕ) →
    InStep w past answer memory →
    ShowUsed memory.bytes up used →
    HasAll (λ x. filled answer x (real w past x)) up

-- the pieces of an answer lie in regions that the Ret gives back
abbrev pub AnswersLieInRegions : World → Type 0
AnswersLieInRegions w =
    (past : List Mark) (func : ℕ) (args : List ℕ) (result : ℕ) (pieces : List Piece) (commit : Commit)
    (bytes : List (List ℕ)) →
    piece_ranges pieces ≡ (interface w).outs func args →
    Commits ((interface w).commits func args result) commit →
    ReleasesInUse (begin w) (seen past) commit →
    (x : ℕ) → any_piece (pieces_for (targets w Replay past func args result) bytes) x ≡ true →
    any_piece (pieces ++ released commit) x ≡ true

-- The pieces of one step: each is written on its own, and the mark comes after the last.
use Rattle.std.specs.Prelude.{◌≡◌, ℕ, ◌^◌, ◌<◌, ◌≤◌, List, [], ◌∷◌, ◌++◌, length}
use Rattle.marks.specs.declared.side.Side.TheVariants.{System}
use Rattle.marks.specs.declared.range.Range.{Range}
use Rattle.marks.specs.Ranges.{Piece}
use Rattle.marks.specs.Marks.{Step, Mark}
use Rattle.space_memory.specs.Spaces.{SpaceState}
use Rattle.whole_runs.specs.World.{World}
use Rattle.whole_runs.specs.Outcomes.{builtin_of}
use Rattle.whole_runs.specs.Below.{Target, piece_for, pieces_for}
use Rattle.whole_runs_memory.specs.Stands.{StandsForWhole, InStep}
use Rattle.whole_runs_memory.specs.Plain.{LeavesPool}
use Rattle.space_memory_laws.specs.Changes.{IsWritten}

-- a step begins with no piece
abbrev pub StepsBeginWithNoPiece : World → Type 0
StepsBeginWithNoPiece w = (past : List Mark) (memory : SpaceState) → StandsForWhole w past memory →
    InStep w past [] memory

-- bytes that are written, below the cut, at the front of a region that has room for them are one more piece
abbrev pub WritesArePieces : World → Type 0
WritesArePieces w =
    (past : List Mark) (old new : SpaceState) (thread : ℕ) (pieces : List Piece) (r : Range)
    (bytes : List ℕ) →
    InStep w past pieces old →
    r.addr < 2 ^ 64 →
    length bytes ≤ r.len →
    IsWritten System old new thread r.addr bytes →
    InStep w past (pieces ++ record { range = r; bytes = bytes } ∷ []) new

-- the pieces of a longer list of targets
abbrev pub PiecesGrow : Type 0
PiecesGrow = (xs : List Target) (bs : List (List ℕ)) (x : Target) (b : List ℕ) → length xs ≡ length bs →
    pieces_for (xs ++ x ∷ []) (bs ++ b ∷ []) ≡ pieces_for xs bs ++ piece_for x b

-- with all its pieces it is one step of a function that has nothing to do with the pool
abbrev pub StepsAreWhole : World → Type 0
StepsAreWhole w =
    (past : List Mark) (memory : SpaceState) (m : Mark) (func : ℕ) (args : List ℕ) (result : ℕ)
    (ins pieces : List Piece) →
    InStep w past pieces memory →
    m.side ≡ System →
    LeavesPool (builtin_of func) →
    m.act ≡ Step func args result ins pieces [] →
    StandsForWhole w (m ∷ past) memory

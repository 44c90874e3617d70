-- Marks: what a thread of a run does, one at a time.
use Rattle.std.specs.Prelude.{ℕ, Bool, true, false, List, [], ◌∷◌, Option}
use Rattle.run_events.specs.declared.key.KeyMark.{KeyMark}
use Rattle.marks.specs.declared.side.Side.{Side}
use Rattle.marks.specs.declared.side.Side.TheVariants.{Replay}
use Rattle.marks.specs.declared.fault.FaultKind.{FaultKind}
use Rattle.marks.specs.declared.range.Range.{Range}
use Rattle.marks.specs.Ranges.{Piece, Prepared}

-- the access that a fault stops; `r2_free` of an address that begins no block touches the one byte there
pub data Access : Type 0 where
  Nowhere : Access
  Reading : (range : Range) → Access
  Writing : (range : Range) → Access
  Freeing : (at : ℕ) → Access

-- what a return does with the region that its function commits: there is none, or its used size is negative
-- and
-- the region stays prepared, or the region under this key is released
pub data Commit : Type 0 where
  NoRegion : Commit
  Withheld : Commit
  Released : (key : ℕ) (region : Piece) → Commit

-- what happens where a thread crosses the cut, uses the pool, or stops. A Call carries what it reads and
-- what it
-- holds; a Ret the arguments of its Call, and in the form `same` it is the thread's last Ret of that
-- function again;
-- an Alloc at 0 was refused; a Stop has the fault of its thread, or none
pub data EventKind : Type 0 where
  Call : (func : ℕ) (args : List ℕ) (ins : List Piece) (outs : List Range) (prepared : List Prepared) →
      EventKind
  Ret : (func : ℕ) (args : List ℕ) (result : ℕ) (same : Bool) (outs : List Piece) (commit : Commit) →
      EventKind
  Up : (func : ℕ) (args : List ℕ) → EventKind
  UpRet : (func : ℕ) (result : ℕ) → EventKind
  Alloc : (at size : ℕ) → EventKind
  Free : (at size : ℕ) → EventKind
  Stop : (fault : Option FaultKind) → EventKind

-- an event, how many steps its thread made since its previous one, its keys with their tickets, and its
-- clock
pub record Event : Type 0 where
  pub kind : EventKind
  pub steps : ℕ
  pub keys : List KeyMark
  pub clock : ℕ

-- what a mark does. A Load or Store has the global that its path begins with. A Step is a builtin or an
-- external met
-- in system mode: what it read, the pieces that it wrote, the blocks that it freed. A fault stands in place
-- of what it
-- stops: the ranges of a Call that were tested before, and the access; it crosses where it stops a Call at
-- one of its
-- ranges, or the pieces of an external
pub data Act : Type 0 where
  Turn : Act
  Load : (origin : Option ℕ) (at : ℕ) (bytes : List ℕ) → Act
  Store : (origin : Option ℕ) (at : ℕ) (bytes : List ℕ) → Act
  Enter : (func : ℕ) (args : List ℕ) (at : ℕ) (bytes : List ℕ) → Act
  Leave : (at size : ℕ) → Act
  Step : (func : ℕ) (args : List ℕ) (result : ℕ) (ins pieces : List Piece) (freed : List Range) → Act
  Fault : (kind : FaultKind) (crosses : Bool) (ins outs : List Range) (access : Access) → Act
  Made : (event : Event) → Act

-- a mark of a thread, with the number of the thread's earlier events. The event T.I is the mark of thread T
-- with the
-- index I that makes an event
pub record Mark : Type 0 where
  pub thread : ℕ
  pub side : Side
  pub index : ℕ
  pub act : Act

abbrev pub is_event : Act → Bool
is_event Turn = false
is_event (Load origin at bytes) = false
is_event (Store origin at bytes) = false
is_event (Enter func args at bytes) = false
is_event (Leave at size) = false
is_event (Step func args result ins pieces freed) = false
is_event (Fault kind crosses ins outs access) = false
is_event (Made e) = true

-- the pieces that a commit writes, and those that a log has of it
abbrev pub released : Commit → List Piece
released NoRegion = []
released Withheld = []
released (Released k p) = p ∷ []

abbrev pub logged : Commit → List (List ℕ)
logged NoRegion = []
logged Withheld = [] ∷ []
logged (Released k p) = p.bytes ∷ []

-- an event stands above the cut, wherever the code stands that makes it
abbrev pub side_of : Side → Act → Side
side_of side Turn = side
side_of side (Load origin at bytes) = side
side_of side (Store origin at bytes) = side
side_of side (Enter func args at bytes) = side
side_of side (Leave at size) = side
side_of side (Step func args result ins pieces freed) = side
side_of side (Fault kind crosses ins outs access) = side
side_of side (Made e) = Replay

-- The memory of both sides, as a look back over the marks.
use Rattle.std.specs.Prelude.{◌≡◌, ℕ, Bool, true, false, if◌then◌else◌, List, [], ◌∷◌, ◌++◌, length, Option, Some, None}
use Rattle.marks.specs.Ranges.{Piece, within, covers, any_range, any_piece, byte_at}
use Rattle.marks.specs.Marks.{EventKind, Call, Ret, Up, UpRet, Alloc, Free, Stop, Act, Turn, Load, Store, Enter, Leave, Step, Fault, Made, Mark, released}
use Rattle.marks.specs.Bytes.{Cell, Dead, Live, Held, granted}
use Rattle.replay_runs.specs.Runs.{byte}
use Rattle.whole_runs.specs.World.{World, placed_at, begin}
use Rattle.whole_runs.specs.Sides.{seen}

-- the byte at x after bytes are written from an address on
abbrev pub written : (at : ℕ) → List ℕ → (x : ℕ) → Option ℕ → Option ℕ
written at bytes x v = if within at (length bytes) x then Some (byte_at at bytes x) else v

-- the same of pieces, one after the other, each at the front of its range and no further than that goes
abbrev pub filled : List Piece → (x : ℕ) → Option ℕ → Option ℕ
filled [] x v = v
filled (p ∷ ps) x v = filled ps x (if covers p.range x then written p.range.addr p.bytes x v else v)

-- the value of a byte that is there, pending or not
abbrev pub value_of : Cell → Option ℕ
value_of Dead = None
value_of (Live v) = Some v
value_of (Held v) = Some v

-- which bytes an event changes for both sides: a Call changes none, since what it holds has its value still
abbrev pub changes : EventKind → (x : ℕ) → Bool
changes (Call f args ins outs prepared) x = false
changes (Ret f args result same outs commit) x = any_piece (outs ++ released commit) x
changes (Up f args) x = false
changes (UpRet f result) x = false
changes (Alloc at size) x = within at (granted at size) x
changes (Free at size) x = within at size x
changes (Stop fault) x = false

-- what a mark leaves of the byte at x; `now` is the run with it. At a Ret, an Alloc and a Free the bytes
-- become what a replay has there: of a Ret the pieces, and past them what was there when the region was
-- held
abbrev pub left_by : World → (now : List Mark) → (x : ℕ) → Act → Option ℕ → Option ℕ
left_by w now x Turn v = v
left_by w now x (Load origin at bytes) v = v
left_by w now x (Store origin at bytes) v = written at bytes x v
left_by w now x (Enter f args at bytes) v = written at bytes x v
left_by w now x (Leave at size) v = if within at size x then None else v
left_by w now x (Step f args result ins pieces freed) v =
    if any_range freed x then None else filled pieces x v
left_by w now x (Fault kind crosses ins outs access) v = v
left_by w now x (Made e) v = if changes e.kind x then value_of (byte (begin w) x (seen now)).cell else v

-- the byte at x, for code of both sides; none where no live object has it
abbrev pub real : World → List Mark → (x : ℕ) → Option ℕ
real w [] x = placed_at w x
real w (m ∷ past) x = left_by w (m ∷ past) x m.act (real w past x)

-- a memory has these bytes from an address on
abbrev pub Has : (memory : ℕ → Option ℕ) → (at : ℕ) → List ℕ → Type 0
Has memory at bytes = (x : ℕ) → within at (length bytes) x ≡ true → memory x ≡ Some (byte_at at bytes x)

-- the same of each piece
abbrev pub HasAll : (memory : ℕ → Option ℕ) → List Piece → Type 0
HasAll memory [] = Unit {0}
HasAll memory (p ∷ ps) = Has memory p.range.addr p.bytes × HasAll memory ps

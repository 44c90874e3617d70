-- Which bytes a mark reads and writes, what it leaves of a byte, and what it asks of memory.
use Rattle.std.specs.Prelude.{◌≡◌, ℕ, suc, ◌+◌, Bool, true, false, ◌&&◌, ◌||◌, not, if◌then◌else◌, ◌==◌, ltb, List, [], ◌∷◌, ◌++◌, length}
use Rattle.marks.specs.declared.range.Range.{Range}
use Rattle.marks.specs.Ranges.{Piece, within, covers, any_range, any_piece, any_prepared, byte_at}
use Rattle.marks.specs.declared.fault.FaultKind.{FaultKind}
use Rattle.marks.specs.declared.fault.FaultKind.TheVariants.{Divide, Shift, NotLive, ReadOnly, StackFull, BadCall}
use Rattle.marks.specs.Places.{is_constant}
use Rattle.marks.specs.Marks.{Access, Nowhere, Reading, Writing, Freeing, EventKind, Call, Ret, Up, UpRet, Alloc, Free, Stop, Act, Turn, Load, Store, Enter, Leave, Step, Fault, Made, Mark, released}

-- in no live object, live with this value, or live and pending, with the value that it had when it was held
pub data Cell : Type 0 where
  Dead : Cell
  Live : (value : ℕ) → Cell
  Held : (value : ℕ) → Cell

-- a byte of memory, and the size of the live block of the pool that begins there, or 0
pub record Byte : Type 0 where
  pub cell : Cell
  pub block : ℕ

abbrev pub IsLive : Cell → Type 0
IsLive Dead = ⊥
IsLive (Live v) = Unit {0}
IsLive (Held v) = ⊥

abbrev pub IsHeld : Cell → Type 0
IsHeld Dead = ⊥
IsHeld (Live v) = ⊥
IsHeld (Held v) = Unit {0}

-- an Alloc that gives 0 has no block
abbrev pub granted : ℕ → ℕ → ℕ
granted at size = if at == 0 then 0 else size

abbrev pub event_reads : EventKind → ℕ → Bool
event_reads (Call func args ins outs prepared) x = any_piece ins x
event_reads (Ret func args result same outs commit) x = false
event_reads (Up func args) x = false
event_reads (UpRet func result) x = false
event_reads (Alloc at size) x = false
event_reads (Free at size) x = false
event_reads (Stop fault) x = false

abbrev pub event_writes : EventKind → ℕ → Bool
event_writes (Call func args ins outs prepared) x = any_range outs x || any_prepared prepared x
event_writes (Ret func args result same outs commit) x = any_piece (outs ++ released commit) x
event_writes (Up func args) x = false
event_writes (UpRet func result) x = false
event_writes (Alloc at size) x = within at (granted at size) x
event_writes (Free at size) x = within at size x
event_writes (Stop fault) x = false

-- a refused write counts as one where it meets no constant; constants are never written, and reading them
-- is free
abbrev pub access_reads : Access → ℕ → Bool
access_reads Nowhere x = false
access_reads (Reading r) x = covers r x
access_reads (Writing r) x = covers r x && is_constant x
access_reads (Freeing at) x = within at 1 x && is_constant x

abbrev pub access_writes : Access → ℕ → Bool
access_writes Nowhere x = false
access_writes (Reading r) x = false
access_writes (Writing r) x = covers r x && not (is_constant x)
access_writes (Freeing at) x = within at 1 x && not (is_constant x)

abbrev pub reads : Act → ℕ → Bool
reads Turn x = false
reads (Load origin at bytes) x = within at (length bytes) x
reads (Store origin at bytes) x = false
reads (Enter func args at bytes) x = false
reads (Leave at size) x = false
reads (Step func args result ins pieces freed) x = false
reads (Fault kind crosses ins outs access) x = any_range ins x || access_reads access x
reads (Made e) x = event_reads e.kind x

abbrev pub writes : Act → ℕ → Bool
writes Turn x = false
writes (Load origin at bytes) x = false
writes (Store origin at bytes) x = within at (length bytes) x
writes (Enter func args at bytes) x = within at (length bytes) x
writes (Leave at size) x = within at size x
writes (Step func args result ins pieces freed) x = false
writes (Fault kind crosses ins outs access) x = any_range outs x || access_writes access x
writes (Made e) x = event_writes e.kind x

abbrev pub touches : Act → ℕ → Bool
touches a x = reads a x || writes a x

-- the accesses of an Alloc and of a Ret come after the event, all others before it
abbrev pub late_event : EventKind → Bool
late_event (Call func args ins outs prepared) = false
late_event (Ret func args result same outs commit) = true
late_event (Up func args) = false
late_event (UpRet func result) = false
late_event (Alloc at size) = true
late_event (Free at size) = false
late_event (Stop fault) = false

abbrev pub late : Act → Bool
late Turn = false
late (Load origin at bytes) = false
late (Store origin at bytes) = false
late (Enter func args at bytes) = false
late (Leave at size) = false
late (Step func args result ins pieces freed) = false
late (Fault kind crosses ins outs access) = false
late (Made e) = late_event e.kind

-- how many events of its thread come before a mark's accesses
abbrev pub place : Mark → ℕ
place m = if late m.act then suc m.index else m.index

-- a live byte becomes pending
abbrev pub hold : Cell → Cell
hold Dead = Dead
hold (Live v) = Held v
hold (Held v) = Held v

-- a pending byte becomes live as it is
abbrev pub release : Cell → Cell
release Dead = Dead
release (Live v) = Live v
release (Held v) = Live v

-- what a piece leaves of a byte of its range
abbrev pub give : Piece → ℕ → Cell → Cell
give p x c = if ltb x (p.range.addr + length p.bytes) then Live (byte_at p.range.addr p.bytes x)
    else release c

abbrev pub give_any : List Piece → ℕ → Cell → Cell
give_any [] x c = c
give_any (p ∷ ps) x c = if covers p.range x then give p x c else give_any ps x c

abbrev pub event_leaves : EventKind → ℕ → Cell → Cell
event_leaves (Call func args ins outs prepared) x c =
    if any_range outs x || any_prepared prepared x then hold c else c
event_leaves (Ret func args result same outs commit) x c = give_any (outs ++ released commit) x c
event_leaves (Up func args) x c = c
event_leaves (UpRet func result) x c = c
event_leaves (Alloc at size) x c = if within at (granted at size) x then Live 0 else c
event_leaves (Free at size) x c = if within at size x then Dead else c
event_leaves (Stop fault) x c = c

abbrev pub cell_after : Act → ℕ → Cell → Cell
cell_after Turn x c = c
cell_after (Load origin at bytes) x c = c
cell_after (Store origin at bytes) x c = if within at (length bytes) x then Live (byte_at at bytes x) else c
cell_after (Enter func args at bytes) x c = if within at (length bytes) x then Live (byte_at at bytes x)
    else c
cell_after (Leave at size) x c = if within at size x then Dead else c
cell_after (Step func args result ins pieces freed) x c = c
cell_after (Fault kind crosses ins outs access) x c = c
cell_after (Made e) x c = event_leaves e.kind x c

-- a block begins where an Alloc puts it, until a Free of its bytes
abbrev pub event_block : EventKind → ℕ → ℕ → ℕ
event_block (Call func args ins outs prepared) x n = n
event_block (Ret func args result same outs commit) x n = n
event_block (Up func args) x n = n
event_block (UpRet func result) x n = n
event_block (Alloc at size) x n = if within at (granted at size) x then (if x == at then size else 0) else n
event_block (Free at size) x n = if within at size x then 0 else n
event_block (Stop fault) x n = n

abbrev pub block_after : Act → ℕ → ℕ → ℕ
block_after Turn x n = n
block_after (Load origin at bytes) x n = n
block_after (Store origin at bytes) x n = n
block_after (Enter func args at bytes) x n = n
block_after (Leave at size) x n = n
block_after (Step func args result ins pieces freed) x n = n
block_after (Fault kind crosses ins outs access) x n = n
block_after (Made e) x n = event_block e.kind x n

-- what a mark leaves of a byte
abbrev pub leaves : Act → ℕ → Byte → Byte
leaves a x b = record { cell = cell_after a x b.cell; block = block_after a x b.block }

-- the byte is what these pieces say
abbrev pub Shows : List Piece → ℕ → Cell → Type 0
Shows [] x c = Unit {0}
Shows (p ∷ ps) x c = (covers p.range x ≡ true → c ≡ Live (byte_at p.range.addr p.bytes x)) × Shows ps x c

-- what an event asks of a byte: a Call reads and holds live bytes that aren't pending, a Free gives back a
-- whole block
abbrev pub EventAsks : EventKind → ℕ → Byte → Type 0
EventAsks (Call func args ins outs prepared) x b = Shows ins x b.cell ×
    ((any_range outs x || any_prepared prepared x) ≡ true → IsLive b.cell)
EventAsks (Ret func args result same outs commit) x b = Unit {0}
EventAsks (Up func args) x b = Unit {0}
EventAsks (UpRet func result) x b = Unit {0}
EventAsks (Alloc at size) x b = Unit {0}
EventAsks (Free at size) x b = within at size x ≡ true → IsLive b.cell × (x ≡ at → b.block ≡ size)
EventAsks (Stop fault) x b = Unit {0}

-- each byte of the range is live and not pending
abbrev pub AllLive : Range → (ℕ → Byte) → Type 0
AllLive r c = (x : ℕ) → covers r x ≡ true → IsLive (c x).cell

-- some byte of the range is in no live object
abbrev pub SomeDead : Range → (ℕ → Byte) → Type 0
SomeDead r c = (x : ℕ) × (covers r x ≡ true) × ((c x).cell ≡ Dead)

-- what memory shows of a write that a fault stops
abbrev pub WriteAsks : FaultKind → Range → (ℕ → Byte) → Type 0
WriteAsks Divide r c = SomeDead r c
WriteAsks Shift r c = SomeDead r c
WriteAsks NotLive r c = SomeDead r c
WriteAsks ReadOnly r c = AllLive r c
WriteAsks StackFull r c = SomeDead r c
WriteAsks BadCall r c = SomeDead r c

-- what memory shows of the access that a fault stops
abbrev pub AccessAsks : FaultKind → Access → (ℕ → Byte) → Type 0
AccessAsks kind Nowhere c = Unit {0}
AccessAsks kind (Reading r) c = SomeDead r c
AccessAsks kind (Writing r) c = WriteAsks kind r c
AccessAsks kind (Freeing at) c = (c at).block ≡ 0

-- what a mark asks of the memory
abbrev pub Asks : Act → (ℕ → Byte) → Type 0
Asks Turn c = Unit {0}
Asks (Load origin at bytes) c = (x : ℕ) → within at (length bytes) x ≡ true →
    (c x).cell ≡ Live (byte_at at bytes x)
Asks (Store origin at bytes) c = (x : ℕ) → within at (length bytes) x ≡ true → IsLive (c x).cell
Asks (Enter func args at bytes) c = Unit {0}
Asks (Leave at size) c = (x : ℕ) → within at size x ≡ true → IsLive (c x).cell
Asks (Step func args result ins pieces freed) c = Unit {0}
Asks (Fault kind crosses ins outs access) c =
    ((x : ℕ) → (any_range ins x || any_range outs x) ≡ true → IsLive (c x).cell) × AccessAsks kind access c
Asks (Made e) c = (x : ℕ) → EventAsks e.kind x (c x)

-- both touch the byte, and one writes it
abbrev pub conflict : Act → Act → ℕ → Bool
conflict a b x = (writes a x && touches b x) || (touches a x && writes b x)

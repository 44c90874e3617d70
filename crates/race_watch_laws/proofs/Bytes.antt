-- The ranges that a watch is told of a mark are the bytes that the mark reads and writes, but for constants.
use Rattle.std.proofs.Common.{◌≡◌, ℕ, Bool, true, false, ◌&&◌, ◌||◌, List, [], ◌∷◌, ◌++◌, length, refl, sym, ap, ◌∙◌, arith}
use Rattle.std.specs.Prelude.{not}
use Rattle.std.proofs.lemmas.Bool.Decides.{nat_tests}
use Rattle.marks.specs.Places.{is_constant}
use Rattle.marks.specs.declared.range.Range.{Range}
use Rattle.marks.specs.Ranges.{Piece, Prepared, range, covers, any_range, any_piece, any_prepared, piece_ranges, prepared_ranges}
use Rattle.marks.specs.Marks.{Access, Nowhere, Reading, Writing, Freeing, EventKind, Call, Ret, Up, UpRet, Alloc, Free, Stop, Act, Turn, Load, Store, Enter, Leave, Step, Fault, Made, released}
use Rattle.marks.specs.Bytes.{granted, event_reads, event_writes, access_reads, access_writes, reads, writes}
use Rattle.race_watch_laws.specs.Told.{read_by_event, written_by_event, read_by_access, written_by_access, read_by, written_by}

or_false : (a : Bool) → (a || false) ≡ a
or_false true = refl
or_false false = refl

or_assoc : (a b c : Bool) → (a || (b || c)) ≡ ((a || b) || c)
or_assoc true b c = refl
or_assoc false b c = refl

and_false : (a : Bool) → false ≡ (a && false)
and_false true = refl
and_false false = refl

and_true : (a : Bool) → a ≡ (a && true)
and_true true = refl
and_true false = refl

any_append : (rs ss : List Range) (x : ℕ) → any_range (rs ++ ss) x ≡ (any_range rs x || any_range ss x)
any_append [] ss x = refl
any_append (r ∷ rs) ss x = ap (λ b. covers r x || b) (any_append rs ss x) ∙ or_assoc (covers r x) (any_range rs x) (any_range ss x)

any_pieces : (ps : List Piece) (x : ℕ) → any_range (piece_ranges ps) x ≡ any_piece ps x
any_pieces [] x = refl
any_pieces (p ∷ ps) x = ap (λ b. covers p.range x || b) (any_pieces ps x)

any_prepareds : (ps : List Prepared) (x : ℕ) → any_range (prepared_ranges ps) x ≡ any_prepared ps x
any_prepareds [] x = refl
any_prepareds (p ∷ ps) x = ap (λ b. covers p.range x || b) (any_prepareds ps x)

event_reads_same : (k : EventKind) (x : ℕ) → any_range (read_by_event k) x ≡ event_reads k x
event_reads_same (Call func args ins outs prepared) x = any_pieces ins x
event_reads_same (Ret func args result same outs commit) x = refl
event_reads_same (Up func args) x = refl
event_reads_same (UpRet func result) x = refl
event_reads_same (Alloc at size) x = refl
event_reads_same (Free at size) x = refl
event_reads_same (Stop fault) x = refl

event_writes_same : (k : EventKind) (x : ℕ) → any_range (written_by_event k) x ≡ event_writes k x
event_writes_same (Call func args ins outs prepared) x = any_append outs (prepared_ranges prepared) x ∙ ap (λ b. any_range outs x || b) (any_prepareds prepared x)
event_writes_same (Ret func args result same outs commit) x = any_pieces (outs ++ released commit) x
event_writes_same (Up func args) x = refl
event_writes_same (UpRet func result) x = refl
event_writes_same (Alloc at size) x = or_false (covers (range at (granted at size)) x)
event_writes_same (Free at size) x = or_false (covers (range at size) x)
event_writes_same (Stop fault) x = refl

access_reads_same : (a : Access) (x : ℕ) → is_constant x ≡ false → any_range (read_by_access a) x ≡ access_reads a x
access_reads_same Nowhere x free = refl
access_reads_same (Reading r) x free = or_false (covers r x)
access_reads_same (Writing r) x free = and_false (covers r x) ∙ ap (λ b. covers r x && b) (sym free)
access_reads_same (Freeing at) x free = and_false (covers (range at 1) x) ∙ ap (λ b. covers (range at 1) x && b) (sym free)

access_writes_same : (a : Access) (x : ℕ) → is_constant x ≡ false → any_range (written_by_access a) x ≡ access_writes a x
access_writes_same Nowhere x free = refl
access_writes_same (Reading r) x free = refl
access_writes_same (Writing r) x free = or_false (covers r x) ∙ and_true (covers r x) ∙ ap (λ b. covers r x && not b) (sym free)
access_writes_same (Freeing at) x free = or_false (covers (range at 1) x) ∙ and_true (covers (range at 1) x) ∙ ap (λ b. covers (range at 1) x && not b) (sym free)

pub reads_same : (a : Act) (x : ℕ) → is_constant x ≡ false → any_range (read_by a) x ≡ reads a x
reads_same Turn x free = refl
reads_same (Load origin at bytes) x free = or_false (covers (range at (length bytes)) x)
reads_same (Store origin at bytes) x free = refl
reads_same (Enter func args at bytes) x free = refl
reads_same (Leave at size) x free = refl
reads_same (Step func args result ins pieces freed) x free = refl
reads_same (Fault kind crosses ins outs access) x free = any_append ins (read_by_access access) x ∙ ap (λ b. any_range ins x || b) (access_reads_same access x free)
reads_same (Made e) x free = event_reads_same e.kind x

pub writes_same : (a : Act) (x : ℕ) → is_constant x ≡ false → any_range (written_by a) x ≡ writes a x
writes_same Turn x free = refl
writes_same (Load origin at bytes) x free = refl
writes_same (Store origin at bytes) x free = or_false (covers (range at (length bytes)) x)
writes_same (Enter func args at bytes) x free = or_false (covers (range at (length bytes)) x)
writes_same (Leave at size) x free = or_false (covers (range at size) x)
writes_same (Step func args result ins pieces freed) x free = refl
writes_same (Fault kind crosses ins outs access) x free = any_append outs (written_by_access access) x ∙ ap (λ b. any_range outs x || b) (access_writes_same access x free)
writes_same (Made e) x free = event_writes_same e.kind x

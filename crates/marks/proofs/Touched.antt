-- A mark looks at what it touches, and changes what it writes.
use Rattle.std.proofs.Common.{◌≡◌, ℕ, ◌+◌, Bool, true, false, ◌&&◌, ◌||◌, not, cond, List, [], ◌∷◌, ◌++◌, refl, sym, ap, ◌∙◌, subst, arith}
use Rattle.std.proofs.lemmas.Bool.{le-leb, lt-ltb, and_from}
use Rattle.marks.specs.declared.fault.FaultKind.{FaultKind}
use Rattle.marks.specs.declared.fault.FaultKind.TheVariants.{Divide, Shift, NotLive, ReadOnly, StackFull, BadCall}
use Rattle.marks.specs.Places.{is_constant}
use Rattle.marks.specs.declared.range.Range.{Range}
use Rattle.marks.specs.Ranges.{Piece, within, covers, any_range, any_piece}
use Rattle.marks.specs.Marks.{Access, Nowhere, Reading, Writing, Freeing, EventKind, Call, Ret, Up, UpRet, Alloc, Free, Stop, Act, Turn, Load, Store, Enter, Leave, Step, Fault, Made, released}
use Rattle.marks.specs.Bytes.{Cell, IsLive, Byte, event_reads, event_writes, access_reads, access_writes, writes, touches, event_leaves, cell_after, event_block, block_after, leaves, give, give_any, Shows, EventAsks, SomeDead, AccessAsks, Asks}

pub or_left : (a b : Bool) → (a || b) ≡ false → a ≡ false
or_left true b e = e
or_left false b e = refl

pub or_right : (a b : Bool) → (a || b) ≡ false → b ≡ false
or_right true b e = absurd cc
or_right false b e = e

pub or_true_left : (a b : Bool) → a ≡ true → (a || b) ≡ true
or_true_left true b e = refl
or_true_left false b e = absurd cc

pub or_true_right : (a b : Bool) → b ≡ true → (a || b) ≡ true
or_true_right true b e = refl
or_true_right false b e = e

not_both : {P : Type 0} (b : Bool) → b ≡ false → b ≡ true → P
not_both b e f = absurd cc

no_pieces : (ps : List Piece) (x : ℕ) (c c' : Cell) → any_piece ps x ≡ false → Shows ps x c → Shows ps x c'
no_pieces [] x c c' e h = tt
no_pieces (p ∷ ps) x c c' e h =
    (λ w. not_both _ (or_left (covers p.range x) (any_piece ps x) e) w, no_pieces ps x c c' (or_right (covers p.range x) (any_piece ps x) e) h.1)

asks_event : (k : EventKind) (x : ℕ) (b b' : Byte) → event_reads k x ≡ false → event_writes k x ≡ false → EventAsks k x b → EventAsks k x b'
asks_event (Call func args ins outs prepared) x b b' r w h = (no_pieces ins x b.cell b'.cell r h.0, λ e. not_both _ w e)
asks_event (Ret func args result same outs commit) x b b' r w h = tt
asks_event (Up func args) x b b' r w h = tt
asks_event (UpRet func result) x b b' r w h = tt
asks_event (Alloc at size) x b b' r w h = tt
asks_event (Free at size) x b b' r w h = λ e. not_both _ w e
asks_event (Stop f) x b b' r w h = tt

some_dead : (r : Range) (c c' : ℕ → Byte) → ((x : ℕ) → covers r x ≡ true → c x ≡ c' x) → SomeDead r c → SomeDead r c'
some_dead r c c' t h = (h.0, h.1, sym (ap (λ b. b.cell) (t h.0 h.1)) ∙ h.2)

inside : (at : ℕ) → within at 1 at ≡ true
inside at = and_from _ _ (le-leb at at (omega arith)) (lt-ltb at (at + 1) (omega arith))

-- the bytes of a refused access are touched
written_or_read : (i c : Bool) → i ≡ true → ((i && c) || (i && not c)) ≡ true
written_or_read true true e = refl
written_or_read true false e = refl
written_or_read false c e = absurd cc

access_agree : (k : FaultKind) (a : Access) (c c' : ℕ → Byte) → ((x : ℕ) → (access_reads a x || access_writes a x) ≡ true → c x ≡ c' x) → AccessAsks k a c → AccessAsks k a c'
access_agree k Nowhere c c' t h = tt
access_agree k (Reading r) c c' t h = some_dead r c c' (λ x e. t x (or_true_left _ _ e)) h
access_agree ReadOnly (Writing r) c c' t h = λ x e. subst (λ b. IsLive b.cell) (t x (written_or_read (covers r x) (is_constant x) e)) (h x e)
access_agree Divide (Writing r) c c' t h = some_dead r c c' (λ x e. t x (written_or_read (covers r x) (is_constant x) e)) h
access_agree Shift (Writing r) c c' t h = some_dead r c c' (λ x e. t x (written_or_read (covers r x) (is_constant x) e)) h
access_agree NotLive (Writing r) c c' t h = some_dead r c c' (λ x e. t x (written_or_read (covers r x) (is_constant x) e)) h
access_agree StackFull (Writing r) c c' t h = some_dead r c c' (λ x e. t x (written_or_read (covers r x) (is_constant x) e)) h
access_agree BadCall (Writing r) c c' t h = some_dead r c c' (λ x e. t x (written_or_read (covers r x) (is_constant x) e)) h
access_agree k (Freeing at) c c' t h = sym (ap (λ b. b.block) (t at (written_or_read (within at 1 at) (is_constant at) (inside at)))) ∙ h

-- what a mark asks of memory, it asks of the bytes that it touches
pub asks_agree : (a : Act) (c c' : ℕ → Byte) → ((x : ℕ) → touches a x ≡ true → c x ≡ c' x) → Asks a c → Asks a c'
asks_agree Turn c c' t h = tt
asks_agree (Load origin at bytes) c c' t h = λ x e. sym (ap (λ b. b.cell) (t x (or_true_left _ _ e))) ∙ h x e
asks_agree (Store origin at bytes) c c' t h = λ x e. subst (λ b. IsLive b.cell) (t x e) (h x e)
asks_agree (Enter func args at bytes) c c' t h = tt
asks_agree (Step func args result ins pieces freed) c c' t h = tt
asks_agree (Leave at size) c c' t h = λ x e. subst (λ b. IsLive b.cell) (t x e) (h x e)
asks_agree (Fault kind crosses ins outs access) c c' t h = (
  λ x e. subst (λ b. IsLive b.cell) (t x (before (any_range ins x) (access_reads access x) (any_range outs x) (access_writes access x) e)) (h.0 x e),
  access_agree kind access c c' (λ x e. t x (at_it (any_range ins x) (access_reads access x) (any_range outs x) (access_writes access x) e)) h.1,
)
  where
    before : (i r o w : Bool) → (i || o) ≡ true → ((i || r) || (o || w)) ≡ true
    before true r o w e = refl
    before false true o w e = refl
    before false false true w e = refl
    before false false false w e = absurd cc

    at_it : (i r o w : Bool) → (r || w) ≡ true → ((i || r) || (o || w)) ≡ true
    at_it true r o w e = refl
    at_it false true o w e = refl
    at_it false false true w e = refl
    at_it false false false w e = e
asks_agree (Made e) c c' t h = λ x. go x (event_reads e.kind x) (event_writes e.kind x) refl refl
  where
    go : (x : ℕ) (p q : Bool) → event_reads e.kind x ≡ p → event_writes e.kind x ≡ q → EventAsks e.kind x (c' x)
    go x true q f g = subst (EventAsks e.kind x) (t x (or_true_left _ _ f)) (h x)
    go x false true f g = subst (EventAsks e.kind x) (t x (or_true_right _ _ g)) (h x)
    go x false false f g = asks_event e.kind x (c x) (c' x) f g (h x)

pub cond_false : {A : Type 0} (b : Bool) (x y : A) → b ≡ false → cond b x y ≡ y
cond_false true x y e = absurd cc
cond_false false x y e = refl

give_none : (ps : List Piece) (x : ℕ) (c : Cell) → any_piece ps x ≡ false → give_any ps x c ≡ c
give_none [] x c e = refl
give_none (p ∷ ps) x c e =
    cond_false (covers p.range x) (give p x c) (give_any ps x c) (or_left _ _ e) ∙ give_none ps x c (or_right (covers p.range x) _ e)

event_keeps : (k : EventKind) (x : ℕ) (c : Cell) → event_writes k x ≡ false → event_leaves k x c ≡ c
event_keeps (Call func args ins outs prepared) x c e = cond_false _ _ _ e
event_keeps (Ret func args result same outs commit) x c e = give_none (outs ++ released commit) x c e
event_keeps (Up func args) x c e = refl
event_keeps (UpRet func result) x c e = refl
event_keeps (Alloc at size) x c e = cond_false _ _ _ e
event_keeps (Free at size) x c e = cond_false _ _ _ e
event_keeps (Stop f) x c e = refl

block_keeps : (k : EventKind) (x n : ℕ) → event_writes k x ≡ false → event_block k x n ≡ n
block_keeps (Call func args ins outs prepared) x n e = refl
block_keeps (Ret func args result same outs commit) x n e = refl
block_keeps (Up func args) x n e = refl
block_keeps (UpRet func result) x n e = refl
block_keeps (Alloc at size) x n e = cond_false _ _ _ e
block_keeps (Free at size) x n e = cond_false _ _ _ e
block_keeps (Stop f) x n e = refl

cell_keeps : (a : Act) (x : ℕ) (c : Cell) → writes a x ≡ false → cell_after a x c ≡ c
cell_keeps Turn x c e = refl
cell_keeps (Load origin at bytes) x c e = refl
cell_keeps (Store origin at bytes) x c e = cond_false _ _ _ e
cell_keeps (Enter func args at bytes) x c e = cond_false _ _ _ e
cell_keeps (Step func args result ins pieces freed) x c e = refl
cell_keeps (Leave at size) x c e = cond_false _ _ _ e
cell_keeps (Fault kind crosses ins outs access) x c e = refl
cell_keeps (Made e) x c w = event_keeps e.kind x c w

begins_keeps : (a : Act) (x n : ℕ) → writes a x ≡ false → block_after a x n ≡ n
begins_keeps (Made e) x n w = block_keeps e.kind x n w
begins_keeps a x n e = refl

-- a mark keeps what it does not write
pub keeps : (a : Act) (x : ℕ) (b : Byte) → writes a x ≡ false → leaves a x b ≡ b
keeps a x b e = let c : cell_after a x b.cell ≡ b.cell = cell_keeps a x b.cell e in
    let n : block_after a x b.block ≡ b.block = begins_keeps a x b.block e in
    λ i. record { cell = c i; block = n i }

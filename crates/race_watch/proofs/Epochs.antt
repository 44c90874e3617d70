-- The epochs of bytes.
use Rattle.std.proofs.Common.{◌≡◌, ℕ, ◌+◌, ◌-◌, ◌*◌, ◌<◌, ◌≤◌, Bool, true, false, ◌&&◌, ◌||◌, cond, eqb, List, [], ◌∷◌, Option, Some, None, ◌⊎◌, inl, inr, ⊎_elim, refl, sym, ap, ◌∙◌, subst, arith, eq-eqb, eqb-true, add-one}
use Rattle.std.specs.Prelude.{nat_lt, nat_le, not, max, slice_index, map, unwrap_or}
use Rattle.std.specs.List.{range_with_len}
use Rattle.std.proofs.lemmas.Bool.{and_parts}
use Rattle.std.proofs.lemmas.Bool.Decides.{nat_tests}
use Rattle.std.proofs.lemmas.List.{get_or_past}
use Rattle.std.proofs.lemmas.List.FromFn.{get_or-map-range_with_len, length-map-range_with_len}
use Rattle.marks.specs.Places.{is_constant}
use Rattle.marks.specs.Ranges.{covers}
use Rattle.race_watch_pages.specs.Kept.{kept, size}
use Rattle.race_watch_pages.specs.declared.pages.Pages.{Pages}
use Rattle.race_watch.specs.declared.bytes.Bytes.{Bytes}
use Rattle.race_watch.specs.declared.seen.Seen.{Seen}
use Rattle.race_watch.specs.declared.tables.Tables.{Tables}
use Rattle.race_watch.specs.Cells.{cell_of, base_of, IsPart}
use Rattle.race_watch.specs.Tables.{at, entry, entry_cell, listed, listed_entry, listed_cell, cells_of, AreTables, ArePut, IsPut}

entry_none : (t : Tables) (w : Bool) (u x : ℕ) → t.threads ≤ u → entry t w u x ≡ 0
entry_none t w u x le = go (cell_of x)
  where
    not_lt : nat_lt u t.threads ≡ false
    not_lt = grind (arith, nat_tests, le)

    go : (o : Option ℕ) → entry_cell t w u o ≡ 0
    go None = refl
    go (Some c) = ap (λ b. cond b (kept t.epochs (base_of u w + c)) 0) not_lt

-- only threads that there are have epochs
thread_of : (t : Tables) (w : Bool) (u x n : ℕ) → n < entry t w u x → u < t.threads
thread_of t w u x n lt = go (nat_lt u t.threads) refl
  where
    go : (b : Bool) → nat_lt u t.threads ≡ b → u < t.threads
    go true e = grind (arith, nat_tests)
    go false e = let le : t.threads ≤ u = grind (arith, nat_tests) in absurd (omega (arith, lt, entry_none t w u x le))

either : (n a b : ℕ) → n < max a b → (n < a) ⊎ (n < b)
either n a b lt = go (nat_lt n a) refl
  where
    go : (v : Bool) → nat_lt n a ≡ v → (n < a) ⊎ (n < b)
    go true e = inl (grind (arith, nat_tests))
    go false e = let le : a ≤ n = grind (arith, nat_tests) in inr (omega (arith, lt, le))

pub known_thread : (t : Tables) (w : Bool) (u x n : ℕ) → n < at t w u x → u < t.threads
known_thread t true u x n lt = ⊎_elim (thread_of t true u x n) (thread_of t false u x n) (either n (entry t true u x) (entry t false u x) lt)
known_thread t false u x n lt = thread_of t false u x n lt

-- one byte is that of a cell

data Lies (x c : ℕ) : Type 0 where
  globals : 0x10000000 ≤ x → x < 0x10100000 → x - 0x10000000 ≡ c → Lies x c
  stacks : 0x20000000 ≤ x → x < 0x20200000 → x - 0x20000000 + 0x100000 ≡ c → Lies x c
  pool : 0x30000000 ≤ x → x < 0x30100000 → x - 0x30000000 + 0x300000 ≡ c → Lies x c

between : (a b x : ℕ) → (nat_le a x && nat_lt x b) ≡ true → (a ≤ x) × (x < b)
between a b x e = let p = and_parts (nat_le a x) (nat_lt x b) e in (grind (arith, nat_tests), grind (arith, nat_tests))

lies : (x c : ℕ) → cell_of x ≡ Some c → Lies x c
lies x c e = go (nat_le 0x10000000 x && nat_lt x 0x10100000) (nat_le 0x20000000 x && nat_lt x 0x20200000) (nat_le 0x30000000 x && nat_lt x 0x30100000) refl refl refl e
  where
    go : (a b d : Bool) → (nat_le 0x10000000 x && nat_lt x 0x10100000) ≡ a → (nat_le 0x20000000 x && nat_lt x 0x20200000) ≡ b → (nat_le 0x30000000 x && nat_lt x 0x30100000) ≡ d → cond a (Some (x - 0x10000000)) (cond b (Some (x - 0x20000000 + 0x100000)) (cond d (Some (x - 0x30000000 + 0x300000)) None)) ≡ Some c → Lies x c
    go true b d f g h e = let p = between 0x10000000 0x10100000 x f in globals p.0 p.1 (ap (λ o. unwrap_or o 0) e)
    go false true d f g h e = let p = between 0x20000000 0x20200000 x g in stacks p.0 p.1 (ap (λ o. unwrap_or o 0) e)
    go false false true f g h e = let p = between 0x30000000 0x30100000 x h in pool p.0 p.1 (ap (λ o. unwrap_or o 0) e)
    go false false false f g h e = absurd cc

pub same_byte : (x y c : ℕ) → cell_of x ≡ Some c → cell_of y ≡ Some c → x ≡ y
same_byte x y c e f = go (lies x c e) (lies y c f)
  where
    go : Lies x c → Lies y c → x ≡ y
    go (globals a b d) (globals k l m) = omega (arith, a, b, d, k, l, m)
    go (globals a b d) (stacks k l m) = absurd (omega (arith, a, b, d, k, l, m))
    go (globals a b d) (pool k l m) = absurd (omega (arith, a, b, d, k, l, m))
    go (stacks a b d) (globals k l m) = absurd (omega (arith, a, b, d, k, l, m))
    go (stacks a b d) (stacks k l m) = omega (arith, a, b, d, k, l, m)
    go (stacks a b d) (pool k l m) = absurd (omega (arith, a, b, d, k, l, m))
    go (pool a b d) (globals k l m) = absurd (omega (arith, a, b, d, k, l, m))
    go (pool a b d) (stacks k l m) = absurd (omega (arith, a, b, d, k, l, m))
    go (pool a b d) (pool k l m) = omega (arith, a, b, d, k, l, m)

pub cell_below : (x c : ℕ) → cell_of x ≡ Some c → c < 0x400000
cell_below x c e = go (lies x c e)
  where
    go : Lies x c → c < 0x400000
    go (globals a b d) = omega (arith, a, b, d)
    go (stacks a b d) = omega (arith, a, b, d)
    go (pool a b d) = omega (arith, a, b, d)

-- the areas, lowest first
pub data InArea (x : ℕ) : Type 0 where
  in_globals : 0x10000000 ≤ x → x < 0x10100000 → InArea x
  in_stacks : 0x20000000 ≤ x → x < 0x20200000 → InArea x
  in_pool : 0x30000000 ≤ x → x < 0x30100000 → InArea x

area_of : (t : Tables) (w : Bool) (u x n : ℕ) → n < entry t w u x → InArea x
area_of t w u x n lt = go (cell_of x) refl lt
  where
    at_area : (c : ℕ) → Lies x c → InArea x
    at_area c (globals a b d) = in_globals a b
    at_area c (stacks a b d) = in_stacks a b
    at_area c (pool a b d) = in_pool a b

    go : (o : Option ℕ) → cell_of x ≡ o → n < entry_cell t w u o → InArea x
    go None e l = absurd (omega (arith, l))
    go (Some c) e l = at_area c (lies x c e)

pub known_area : (t : Tables) (w : Bool) (u x n : ℕ) → n < at t w u x → InArea x
known_area t true u x n lt = ⊎_elim (area_of t true u x n) (area_of t false u x n) (either n (entry t true u x) (entry t false u x) lt)
known_area t false u x n lt = area_of t false u x n lt

-- no epoch is that of a constant
pub no_constant : (x : ℕ) → InArea x → is_constant x ≡ false
no_constant x (in_globals a b) = grind (arith, nat_tests, a, b)
no_constant x (in_stacks a b) = grind (arith, nat_tests, a, b)
no_constant x (in_pool a b) = grind (arith, nat_tests, a, b)

-- cells of two threads, or of two kinds, are two

base_apart : (u t : ℕ) (w k : Bool) (c d : ℕ) → c < 0x400000 → d < 0x400000 → base_of u w + c ≡ base_of t k + d → (u ≡ t) × (w ≡ k) × (c ≡ d)
base_apart u t true true c d l m e = (omega (arith, l, m, e), refl, omega (arith, l, m, e))
base_apart u t false false c d l m e = (omega (arith, l, m, e), refl, omega (arith, l, m, e))
base_apart u t true false c d l m e = absurd (omega (arith, l, m, e))
base_apart u t false true c d l m e = absurd (omega (arith, l, m, e))

abbrev pub alike : Bool → Bool → Bool
alike true k = k
alike false k = not k

alike_is : (w k : Bool) → w ≡ k → alike w k ≡ true
alike_is true k e = sym e
alike_is false true e = absurd cc
alike_is false false e = refl

is_alike : (w k : Bool) → alike w k ≡ true → w ≡ k
is_alike true k e = sym e
is_alike false true e = absurd cc
is_alike false false e = refl

all_of : (a b c : Bool) → a ≡ true → b ≡ true → c ≡ true → (a && (b && c)) ≡ true
all_of true true true p q r = refl
all_of true true false p q r = absurd cc
all_of true false c p q r = absurd cc
all_of false b c p q r = absurd cc

bools : (a b : Bool) → (a ≡ true → b ≡ true) → (b ≡ true → a ≡ true) → a ≡ b
bools true b f g = sym (f refl)
bools false true f g = g refl
bools false false f g = refl

within : (a b x : ℕ) → a ≤ x → x < b → (nat_le a x && nat_lt x b) ≡ true
within a b x h l = grind (arith, nat_tests, h, l)

-- a cell is among those of the bytes exactly if its byte is among them
cell_is : (b : Bytes) (t u x c : ℕ) (w k : Bool) → IsPart b → cell_of x ≡ Some c → (nat_le (base_of t k + b.cell) (base_of u w + c) && nat_lt (base_of u w + c) (base_of t k + b.cell + (b.to - b.from))) ≡ (eqb t u && (alike w k && (nat_le b.from x && nat_lt x b.to)))
cell_is b t u x c w k p e = bools (nat_le (base_of t k + b.cell) (base_of u w + c) && nat_lt (base_of u w + c) (base_of t k + b.cell + (b.to - b.from))) (eqb t u && (alike w k && (nat_le b.from x && nat_lt x b.to))) forth back
  where
    forth : (nat_le (base_of t k + b.cell) (base_of u w + c) && nat_lt (base_of u w + c) (base_of t k + b.cell + (b.to - b.from))) ≡ true → (eqb t u && (alike w k && (nat_le b.from x && nat_lt x b.to))) ≡ true
    forth h =
        let l = between (base_of t k + b.cell) (base_of t k + b.cell + (b.to - b.from)) (base_of u w + c) h in
        let d : ℕ = base_of u w + c - base_of t k in
        let e1 : base_of u w + c ≡ base_of t k + d = omega (arith, l.0) in
        let low : b.cell ≤ d = omega (arith, l.0) in
        let high : d < b.cell + (b.to - b.from) = omega (arith, l.0, l.1) in
        let s = base_apart u t w k c d (cell_below x c e) (omega (arith, high, p.within)) e1 in
        let y : ℕ = b.from + (d - b.cell) in
        let y1 : y < b.to = omega (arith, low, high) in
        let cell : b.cell + (y - b.from) ≡ c = omega (arith, low, s.2) in
        let is : x ≡ y = same_byte x y c e (p.cells y (omega arith) y1 ∙ ap (λ n. Some n) cell) in
        all_of (eqb t u) (alike w k) (nat_le b.from x && nat_lt x b.to) (eq-eqb t u (sym s.0)) (alike_is w k s.1) (within b.from b.to x (omega (arith, is)) (omega (arith, is, y1)))

    back : (eqb t u && (alike w k && (nat_le b.from x && nat_lt x b.to))) ≡ true → (nat_le (base_of t k + b.cell) (base_of u w + c) && nat_lt (base_of u w + c) (base_of t k + b.cell + (b.to - b.from))) ≡ true
    back h =
        let a = and_parts (eqb t u) (alike w k && (nat_le b.from x && nat_lt x b.to)) h in
        let d = and_parts (alike w k) (nat_le b.from x && nat_lt x b.to) a.1 in
        let l = between b.from b.to x d.1 in
        let some : Some c ≡ Some (b.cell + (x - b.from)) = sym e ∙ p.cells x l.0 l.1 in
        let cell : c ≡ b.cell + (x - b.from) = ap (λ o. unwrap_or o 0) some in
        let base : base_of t k ≡ base_of u w = ap (λ n. base_of n k) (eqb-true t u a.0) ∙ ap (base_of u) (sym (is_alike w k d.0)) in
        within (base_of t k + b.cell) (base_of t k + b.cell + (b.to - b.from)) (base_of u w + c) (omega (arith, base, cell)) (omega (arith, base, cell, l.0, l.1))

-- the entries after one kind of a thread's cells was filled
pub filled_at : (old new : Tables) (b : Bytes) (t epoch : ℕ) (k : Bool) → IsPart b → t < old.threads → new.threads ≡ old.threads → ((c : ℕ) → kept new.epochs c ≡ cond (nat_le (base_of t k + b.cell) c && nat_lt c (base_of t k + b.cell + (b.to - b.from))) epoch (kept old.epochs c))
    → (w : Bool) (u x : ℕ) → entry new w u x ≡ cond (eqb t u && (alike w k && (nat_le b.from x && nat_lt x b.to))) epoch (entry old w u x)
filled_at old new b t epoch k p lt same fill w u x = go (cell_of x) refl
  where
    unless : (a : Bool) (n : ℕ) → (a ≡ true → ⊥) → n ≡ cond a epoch n
    unless true n f = absurd (f refl)
    unless false n f = refl

    some : (c : ℕ) (v : Bool) → cell_of x ≡ Some c → nat_lt u old.threads ≡ v → cond v (kept new.epochs (base_of u w + c)) 0 ≡ cond (eqb t u && (alike w k && (nat_le b.from x && nat_lt x b.to))) epoch (cond v (kept old.epochs (base_of u w + c)) 0)
    some c true e f = fill (base_of u w + c) ∙ ap (λ a. cond a epoch (kept old.epochs (base_of u w + c))) (cell_is b t u x c w k p e)
    some c false e f = unless (eqb t u && (alike w k && (nat_le b.from x && nat_lt x b.to))) 0 (λ h.
        let a = and_parts (eqb t u) (alike w k && (nat_le b.from x && nat_lt x b.to)) h in
        let is : t ≡ u = eqb-true t u a.0 in
        let le : old.threads ≤ u = grind (arith, nat_tests) in
        omega (arith, le, is, lt))

    go : (o : Option ℕ) → cell_of x ≡ o → entry_cell new w u o ≡ cond (eqb t u && (alike w k && (nat_le b.from x && nat_lt x b.to))) epoch (entry_cell old w u o)
    go None e = unless (eqb t u && (alike w k && (nat_le b.from x && nat_lt x b.to))) 0 (λ h.
        let a = and_parts (eqb t u) (alike w k && (nat_le b.from x && nat_lt x b.to)) h in
        let d = and_parts (alike w k) (nat_le b.from x && nat_lt x b.to) a.1 in
        let l = between b.from b.to x d.1 in
        let none : None ≡ Some (b.cell + (x - b.from)) = sym e ∙ p.cells x l.0 l.1 in
        absurd cc)
    go (Some c) e = ap (λ n. cond (nat_lt u n) (kept new.epochs (base_of u w + c)) 0) same ∙ some c (nat_lt u old.threads) e refl

-- a read or a write that is no earlier than any access of the thread is its last one
put_newest : (write w a b : Bool) (n r v r0 v0 : ℕ) → r ≡ cond (a && (alike true (not write) && b)) n r0 → v ≡ cond (a && (alike false (not write) && b)) n v0 → ((a && b) ≡ true → max r0 v0 ≤ n) → cond w (max r v) v ≡ cond (a && ((w || write) && b)) n (cond w (max r0 v0) v0)
put_newest true true true true n r v r0 v0 e f h = let k = h refl in omega (arith, e, f, k)
put_newest true false true true n r v r0 v0 e f h = f
put_newest false true true true n r v r0 v0 e f h = let k = h refl in omega (arith, e, f, k)
put_newest false false true true n r v r0 v0 e f h = f
put_newest true true true false n r v r0 v0 e f h = omega (arith, e, f)
put_newest true false true false n r v r0 v0 e f h = f
put_newest false true true false n r v r0 v0 e f h = omega (arith, e, f)
put_newest false false true false n r v r0 v0 e f h = f
put_newest write true false b n r v r0 v0 e f h = omega (arith, e, f)
put_newest write false false b n r v r0 v0 e f h = f

-- the list of all epochs

map_same : (f g : ℕ → ℕ) (xs : List ℕ) → ((n : ℕ) → f n ≡ g n) → map f xs ≡ map g xs
map_same f g [] h = refl
map_same f g (x ∷ xs) h = ap (λ y. y ∷ map f xs) (h x) ∙ ap (λ ys. g x ∷ ys) (map_same f g xs h)

pub cells_same : (old new : Tables) → size new.epochs ≡ size old.epochs → ((c : ℕ) → kept new.epochs c ≡ kept old.epochs c) → cells_of new ≡ cells_of old
unfolding cells_of
cells_same old new s h = ap (λ n. map (kept new.epochs) (range_with_len 0 (256 * n))) s ∙ map_same (kept new.epochs) (kept old.epochs) (range_with_len 0 (256 * size old.epochs)) h

entry_is : (t : Tables) (w : Bool) (u x : ℕ) → AreTables t → listed_entry (cells_of t) w u x ≡ entry t w u x
unfolding cells_of
entry_is t w u x h = go (cell_of x) refl
  where
    small : (w : Bool) (c : ℕ) → c < 0x400000 → u < t.threads → base_of u w + c < 256 * size t.epochs
    small true c l lt = omega (arith, l, lt, h.size)
    small false c l lt = omega (arith, l, lt, h.size)

    large : (w : Bool) (c : ℕ) → t.threads ≤ u → 256 * size t.epochs ≤ base_of u w + c
    large true c le = omega (arith, le, h.size)
    large false c le = omega (arith, le, h.size)

    some : (c : ℕ) (v : Bool) → cell_of x ≡ Some c → nat_lt u t.threads ≡ v → slice_index (map (kept t.epochs) (range_with_len 0 (256 * size t.epochs))) (base_of u w + c) ≡ cond v (kept t.epochs (base_of u w + c)) 0
    some c true e f = get_or-map-range_with_len (kept t.epochs) 0 (256 * size t.epochs) (base_of u w + c) (base_of u w + c) 0 (small w c (cell_below x c e) (grind (arith, nat_tests))) (omega arith)
    some c false e f =
        let le : t.threads ≤ u = grind (arith, nat_tests) in
        get_or_past (map (kept t.epochs) (range_with_len 0 (256 * size t.epochs))) (base_of u w + c) 0 (omega (arith, length-map-range_with_len (kept t.epochs) 0 (256 * size t.epochs), large w c le))

    go : (o : Option ℕ) → cell_of x ≡ o → listed_cell (map (kept t.epochs) (range_with_len 0 (256 * size t.epochs))) w u o ≡ entry_cell t w u o
    go None e = refl
    go (Some c) e = some c (nat_lt u t.threads) e refl

pub listed_is : (t : Tables) (w : Bool) (u x : ℕ) → AreTables t → listed (cells_of t) w u x ≡ at t w u x
listed_is t true u x h = ap (λ n. max n (listed_entry (cells_of t) false u x)) (entry_is t true u x h) ∙ ap (max (entry t true u x)) (entry_is t false u x h)
listed_is t false u x h = entry_is t false u x h

-- the last accesses after one kind of a thread's cells was filled
pub put_by : (old : Tables) (used : ℕ) (new : Pages) (mid : ℕ → ℕ) (b : Bytes) (t epoch : ℕ) (write : Bool) (r : ℕ) → IsPart b → t < old.threads → ((x : ℕ) → at old true t x ≤ epoch) → r ≡ base_of t (not write) → ((c : ℕ) → kept new c ≡ cond (nat_le (r + b.cell) c && nat_lt c (r + b.cell + (b.to - b.from))) epoch (mid c)) → ((c : ℕ) → mid c ≡ kept old.epochs c)
    → IsPut b t write epoch (at old) (at (record { threads = old.threads; used = used; epochs = new }))
put_by old used new mid b t epoch write r p lt before is fill same w u x =
    put_newest write w (eqb t u) (nat_le b.from x && nat_lt x b.to) epoch (entry after true u x) (entry after false u x) (entry old true u x) (entry old false u x) (filled true) (filled false) own
  where
    after : Tables
    after = record { threads = old.threads; used = used; epochs = new }

    filled : (k : Bool) → entry after k u x ≡ cond (eqb t u && (alike k (not write) && (nat_le b.from x && nat_lt x b.to))) epoch (entry old k u x)
    filled k = filled_at old after b t epoch (not write) p lt refl (λ c. fill c ∙ ap (λ n. cond (nat_le (n + b.cell) c && nat_lt c (n + b.cell + (b.to - b.from))) epoch (mid c)) is ∙ ap (cond (nat_le (base_of t (not write) + b.cell) c && nat_lt c (base_of t (not write) + b.cell + (b.to - b.from))) epoch) (same c)) k u x

    own : (eqb t u && (nat_le b.from x && nat_lt x b.to)) ≡ true → at old true u x ≤ epoch
    own e = subst (λ y. at old true y x ≤ epoch) (eqb-true t u (and_parts (eqb t u) (nat_le b.from x && nat_lt x b.to) e).0) (before x)

-- ---- threads that made no access

entry_same : (old new : Tables) → new.threads ≡ old.threads → ((c : ℕ) → kept new.epochs c ≡ kept old.epochs c) → (w : Bool) (u x : ℕ) → entry new w u x ≡ entry old w u x
entry_same old new threads same w u x = go (cell_of x)
  where
    go : (o : Option ℕ) → entry_cell new w u o ≡ entry_cell old w u o
    go None = refl
    go (Some c) = ap (λ n. cond (nat_lt u n) (kept new.epochs (base_of u w + c)) 0) threads ∙ ap (λ n. cond (nat_lt u old.threads) n 0) (same (base_of u w + c))

at_same : (old new : Tables) → new.threads ≡ old.threads → ((c : ℕ) → kept new.epochs c ≡ kept old.epochs c) → (w : Bool) (u x : ℕ) → at new w u x ≡ at old w u x
at_same old new threads same true u x = ap (λ n. max n (entry new false u x)) (entry_same old new threads same true u x) ∙ ap (max (entry old true u x)) (entry_same old new threads same false u x)
at_same old new threads same false u x = entry_same old new threads same false u x

-- more threads may be used
pub still_unused : (old new : Tables) → AreTables old → new.threads ≡ old.threads → old.used ≤ new.used → ((c : ℕ) → kept new.epochs c ≡ kept old.epochs c) → (w : Bool) (u x : ℕ) → new.used ≤ u → at new w u x ≡ 0
still_unused old new h threads more same w u x le = at_same old new threads same w u x ∙ h.unused w u x (omega (arith, le, more))

-- the bytes are those of an access
pub put_access : (b : Bytes) (one : Seen) (old new : Bool → ℕ → ℕ → ℕ) → b.from ≡ one.range.addr → b.to ≡ one.range.addr + one.range.len → IsPut b one.thread one.write (one.place + 1) old new → ArePut old new one
put_access b one old new from to put touched u x =
    put touched u x
    ∙ (ap (λ n. cond (eqb one.thread u && ((touched || one.write) && (nat_le n x && nat_lt x b.to))) (one.place + 1) (old touched u x)) from
    ∙ (ap (λ n. cond (eqb one.thread u && ((touched || one.write) && (nat_le one.range.addr x && nat_lt x n))) (one.place + 1) (old touched u x)) to
    ∙ ap (λ n. cond (eqb one.thread u && ((touched || one.write) && covers one.range x)) n (old touched u x)) (add-one one.place)))

-- one thread is used now
pub put_unused : (old new : Tables) (t epoch : ℕ) (b : Bytes) (write : Bool) → AreTables old → old.used ≤ new.used → t < new.used → IsPut b t write epoch (at old) (at new) → (w : Bool) (u x : ℕ) → new.used ≤ u → at new w u x ≡ 0
put_unused old new t epoch b write h more lt put w u x le = put w u x ∙ go (eqb t u) refl
  where
    go : (a : Bool) → eqb t u ≡ a → cond (a && ((w || write) && (nat_le b.from x && nat_lt x b.to))) epoch (at old w u x) ≡ 0
    go true e = absurd (omega (arith, lt, le, eqb-true t u e))
    go false e = h.unused w u x (omega (arith, le, more))

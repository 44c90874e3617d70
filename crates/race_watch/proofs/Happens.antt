-- What a watch keeps, one event further.
use Rattle.std.proofs.Common.{◌≡◌, ℕ, suc, zero, ◌+◌, ◌<◌, ◌≤◌, max, Bool, true, false, cond, eqb, List, [], ◌∷◌, ◌++◌, length, length-append, get_or, ⊎_elim, refl, sym, ap, ◌∙◌, subst, arith, eq-eqb}
use Rattle.std.specs.Prelude.{slice_index}
use Rattle.std.specs.BTreeMap.{BTreeMap}
use Rattle.std.proofs.Math.ListN.{set, replicate}
use Rattle.std.proofs.lemmas.Bool.{cases_eq}
use Rattle.std.proofs.lemmas.Bool.Decides.{nat_tests}
use Rattle.std.proofs.lemmas.List.{length-set, get_or-set_same, get_or-set_other, get_or-replicate, length-replicate}
use Rattle.run_events.specs.declared.key.Key.{Key}
use Rattle.logical_clock.specs.declared.name.KeyName.{KeyName}
use Rattle.causal_order.specs.Order.{OfThread, OfKey}
use Rattle.logical_clock.specs.Events.{occurrence, is_among}
use Rattle.logical_clock.specs.Names.{name, is_named, greatest_of}
use Rattle.logical_clock.specs.Counts.{latest}
use Rattle.logical_clock.proofs.Places.{greatest_same, named_among}
use Rattle.race_watch.specs.Told.{Told, Accessed, Happened, place, learned, knows}
use Rattle.race_watch.specs.Rows.{row_at, row_in, AreBlank}
use Rattle.race_watch.specs.State.{WatchState}
use Rattle.std.specs.List.{All}
use Rattle.race_watch.specs.declared.seen.Seen.{Seen}
use Rattle.race_watch.specs.Tables.{listed}
use Rattle.race_watch.specs.Stands.{Stands, Reached, IsLastSeen, event_count}

pub place_le : (past : List Told) (t : ℕ) → place t past ≤ event_count past
place_le [] t = omega arith
place_le (Accessed u range write ∷ past) t = place_le past t
place_le (Happened m ∷ past) t = go (eqb m.thread t) (place_le past t)
  where
    go : (b : Bool) → place t past ≤ event_count past → cond b (suc (place t past)) (place t past) ≤ event_count past + 1
    go true h = omega arith
    go false h = omega arith

pub index_fits : (past : List Told) (w : WatchState) (t n : ℕ) → Stands past w → t < length w.made → n ≡ slice_index w.made t → n ≤ w.events
index_fits past w t n h lt e = omega (arith, e, h.made t lt, h.events, place_le past t)

-- a place of a list that is written
set_at : (xs : List ℕ) (i v j n m : ℕ) → i < length xs → v ≡ n → slice_index xs j ≡ m → slice_index (set xs i v) j ≡ cond (eqb i j) n m
set_at xs i v j n m lt e f =
    ⊎_elim
    (λ is. let b : eqb i j ≡ true = eq-eqb i j is in
    subst (λ k. slice_index (set xs i v) k ≡ v) is (get_or-set_same xs i v 0 lt) ∙ e ∙ ap (λ x. cond x n m) (sym b))
    (λ ne. let b : eqb i j ≡ false = grind (arith, nat_tests) in
    get_or-set_other xs i j v 0 (λ z. ne (sym z)) ∙ f ∙ ap (λ x. cond x n m) (sym b))
    (cases_eq i j)

-- what the event tells
pub learned_row : (past : List Told) (w : WatchState) (t index top : ℕ) (keys : List Key) (row0 row1 : List ℕ) (mid : KeyName → List ℕ) → Stands past w → t < length w.rows → t < length w.made → t < length row1
    → row0 ≡ get_or w.rows t [] → index ≡ slice_index w.made t → ((k : Key) (u : ℕ) → u < 32 → slice_index (mid (name k)) u ≡ slice_index (row_at w.keys (name k)) u) → ((u : ℕ) → u < 32 → slice_index row1 u ≡ max (slice_index row0 u) (greatest_of (λ (k : Key). slice_index (mid (name k)) u) keys)) → top ≡ max (slice_index row1 t) (index + 1)
    → (u : ℕ) → u < 32 → slice_index (set row1 t top) u ≡ learned (knows past) (place t past) (occurrence t keys) u
learned_row past w t index top keys row0 row1 mid h lt lm long is0 isi ism is1 ist u below =
    let own : slice_index row0 u ≡ knows past (OfThread t) u = ap (λ r. slice_index r u) is0 ∙ h.rows t u lt below in
    let by_keys = greatest_same (λ (k : Key). slice_index (mid (name k)) u) (λ k. knows past (OfKey k) u) keys (λ k. ism k u below ∙ h.keys k u below) in
    let here : slice_index row1 u ≡ latest (λ l. knows past l u) (occurrence t keys) = omega (arith, is1 u below, own, by_keys) in
    let ind = isi ∙ h.made t lm in
    ⊎_elim
    (λ is. let b : eqb t u ≡ true = eq-eqb t u is in
    let z : slice_index (set row1 t top) u ≡ top = subst (λ k. slice_index (set row1 t top) k ≡ top) is (get_or-set_same row1 t top 0 long) in
    let y : slice_index row1 t ≡ slice_index row1 u = ap (slice_index row1) is in
    let x = ap (λ x. max (cond x (suc (place t past)) 0) (latest (λ l. knows past l u) (occurrence t keys))) (sym b) in
    let v : slice_index (set row1 t top) u ≡ max (suc (place t past)) (latest (λ l. knows past l u) (occurrence t keys)) = omega (arith, z, y, ist, here, ind) in
    v ∙ x)
    (λ ne. let b : eqb t u ≡ false = grind (arith, nat_tests) in
    let z = get_or-set_other row1 t u top 0 (λ q. ne (sym q)) in
    let x = ap (λ x. max (cond x (suc (place t past)) 0) (latest (λ l. knows past l u) (occurrence t keys))) (sym b) in
    let v : slice_index (set row1 t top) u ≡ max 0 (latest (λ l. knows past l u) (occurrence t keys)) = omega (arith, z, here) in
    v ∙ x)
    (cases_eq t u)

-- the same of an event without keys
pub alone_row : (past : List Told) (w : WatchState) (t index top : ℕ) (row : List ℕ) → Stands past w → t < length w.rows → t < length w.made → t < length row → row ≡ get_or w.rows t [] → index ≡ slice_index w.made t → top ≡ max (slice_index row t) (index + 1)
    → (u : ℕ) → u < 32 → slice_index (set row t top) u ≡ learned (knows past) (place t past) (occurrence t []) u
alone_row past w t index top row h lt lm long is isi ist =
    learned_row past w t index top [] row row (λ q. row_at w.keys q) h lt lm long is isi (λ k u below. refl) (λ u below. omega arith) ist

set_row : (rows : List (List ℕ)) (t j u : ℕ) (row : List ℕ) (n m : ℕ) → t < length rows → slice_index row u ≡ n → slice_index (get_or rows j []) u ≡ m → slice_index (get_or (set rows t row) j []) u ≡ cond (eqb t j) n m
set_row rows t j u row n m lt e f =
    ⊎_elim
    (λ is. let b : eqb t j ≡ true = eq-eqb t j is in
    ap (λ r. slice_index r u) (subst (λ k. get_or (set rows t row) k [] ≡ row) is (get_or-set_same rows t row [] lt)) ∙ e ∙ ap (λ x. cond x n m) (sym b))
    (λ ne. let b : eqb t j ≡ false = grind (arith, nat_tests) in
    ap (λ r. slice_index r u) (get_or-set_other rows t j row [] (λ z. ne (sym z))) ∙ f ∙ ap (λ x. cond x n m) (sym b))
    (cases_eq t j)

told_row : (a b : Bool) (u : ℕ) (row was new : List ℕ) (n m : ℕ) → a ≡ b → new ≡ cond a row was → slice_index row u ≡ n → slice_index was u ≡ m → slice_index new u ≡ cond b n m
told_row true true u row was new n m e is f g = ap (λ r. slice_index r u) is ∙ f
told_row true false u row was new n m e is f g = absurd cc
told_row false true u row was new n m e is f g = absurd cc
told_row false false u row was new n m e is f g = ap (λ r. slice_index r u) is ∙ g

pub happened : (past : List Told) (w : WatchState) (t index : ℕ) (keys : List Key) (row : List ℕ) (mid new : BTreeMap KeyName (List ℕ)) → Stands past w → t < length w.rows → t < length w.made → index ≡ slice_index w.made t
    → ((u : ℕ) → u < 32 → slice_index row u ≡ learned (knows past) (place t past) (occurrence t keys) u) → ((q : KeyName) (u : ℕ) → u < 32 → slice_index (row_in mid q) u ≡ slice_index (row_at w.keys q) u) → ((q : KeyName) → row_in new q ≡ cond (is_named keys q) row (row_in mid q))
    → Stands (Happened (occurrence t keys) ∷ past) (record { events = w.events + 1; made = set w.made t (index + 1); rows = set w.rows t row; keys = new.entries; seen = w.seen; epochs = w.epochs })
happened past w t index keys row mid new h lt lm isi isr same told =
    record {
      events = ap (λ n. n + 1) h.events;
      made = λ j lj. ⊎_elim
          (λ is. let b : eqb t j ≡ true = eq-eqb t j is in
          let z : slice_index (set w.made t (index + 1)) j ≡ index + 1 = subst (λ k. slice_index (set w.made t (index + 1)) k ≡ index + 1) is (get_or-set_same w.made t (index + 1) 0 lm) in
          let y : place t past ≡ place j past = ap (λ k. place k past) is in
          let v : slice_index (set w.made t (index + 1)) j ≡ suc (place j past) = omega (arith, z, y, isi, h.made t lm) in
          v ∙ ap (λ x. cond x (suc (place j past)) (place j past)) (sym b))
          (λ ne. let b : eqb t j ≡ false = grind (arith, nat_tests) in
          get_or-set_other w.made t j (index + 1) 0 (λ z. ne (sym z)) ∙ h.made j (omega (arith, length-set w.made t (index + 1))) ∙ ap (λ x. cond x (suc (place j past)) (place j past)) (sym b))
          (cases_eq t j);
      rows = λ j u lj below. set_row w.rows t j u row (learned (knows past) (place t past) (occurrence t keys) u) (knows past (OfThread j) u) lt (isr u below) (h.rows j u (omega (arith, length-set w.rows t row)) below);
      keys = λ k u below. told_row (is_named keys (name k)) (is_among keys k) u row (row_in mid (name k)) (row_in new (name k)) (learned (knows past) (place t past) (occurrence t keys) u) (knows past (OfKey k) u) (named_among keys k) (told (name k)) (isr u below) (same (name k) u below ∙ h.keys k u below);
      seen = record { sound = λ s v x i e f. h.seen.sound s v x i e f; below = λ v u x. h.seen.below v u x; complete = λ v u x n o l. h.seen.complete v u x n o l };
    }

none_seen : (epochs : Bool → ℕ → ℕ → ℕ) → ((v : Bool) (u x : ℕ) → epochs v u x ≡ 0) → IsLastSeen [] epochs []
none_seen epochs z = record { sound = λ s v x i e f. absurd i; below = λ v u x. omega (arith, z v u x); complete = λ v u x n o l. absurd (zeros v n l) }
  where
    zeros : (v : Bool) (n : ℕ) → n < cond v 0 0 → ⊥
    zeros true n l = omega (arith, l)
    zeros false n l = omega (arith, l)

-- nothing yet
pub begun : (w : WatchState) (n : ℕ) → w.events ≡ 0 → w.made ≡ replicate n 0 → AreBlank n w.rows → w.keys ≡ [] → w.seen ≡ [] → ((v : Bool) (u x : ℕ) → listed w.epochs v u x ≡ 0) → Stands [] w
begun w n e m r k s z =
    record {
      events = e;
      made = λ t lt. ap (λ l. slice_index l t) m ∙ get_or-replicate n t 0 0 (omega (arith, ap length m, length-replicate {A = ℕ} n 0));
      rows = λ t u lt below. r.zeros t u below;
      keys = λ q u below. ap (λ l. slice_index (row_at l (name q)) u) k;
      seen = subst (λ l. IsLastSeen l (listed w.epochs) []) (sym s) (none_seen (listed w.epochs) z);
    }

blank_at : (rows : List (List ℕ)) (t u : ℕ) → ((t u : ℕ) → u < 32 → slice_index (get_or rows t []) u ≡ 0) → u < 32 → slice_index (get_or (rows ++ replicate 32 0 ∷ []) t []) u ≡ 0
blank_at [] zero u h lt = get_or-replicate 32 u 0 0 lt
blank_at [] (suc t) u h lt = refl
blank_at (r ∷ rows) zero u h lt = h 0 u lt
blank_at (r ∷ rows) (suc t) u h lt = blank_at rows t u (λ t u lt. h (suc t) u lt) lt

pub blank_more : (n : ℕ) (rows new : List (List ℕ)) → AreBlank n rows → new ≡ rows ++ replicate 32 0 ∷ [] → AreBlank (n + 1) new
blank_more n rows new h e = subst (AreBlank (n + 1)) (sym e) (record { long = omega (arith, h.long, length-append rows (replicate 32 0 ∷ [])); zeros = λ t u lt. blank_at rows t u h.zeros lt })

pub reached_first : (w : WatchState) (n : ℕ) → n ≤ 32 → Stands [] w → w.made ≡ replicate n 0 → AreBlank n w.rows → w.seen ≡ [] → ((v : Bool) (u x : ℕ) → listed w.epochs v u x ≡ 0) → Reached w
reached_first w n le h m r s z =
    record {
      past = [];
      stands = h;
      quiet = λ write t u x ne k small lt. nothing write;
      few_events = omega (arith, h.events);
      width = omega (arith, ap length m, length-replicate {A = ℕ} n 0, r.long);
      few = omega (arith, r.long);
      threads = let none : All (λ (x : Seen). x.thread < 32) [] = λ k d lt. absurd (omega (arith, lt)) in subst (All (λ (x : Seen). x.thread < 32)) (sym s) none;
    }
  where
    nothing : (write : Bool) → cond write 0 0 ≤ 0
    nothing true = omega arith
    nothing false = omega arith

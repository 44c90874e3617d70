-- The last access of a byte, one access further.
use Rattle.std.proofs.Common.{◌≡◌, ℕ, suc, zero, ◌+◌, ◌<◌, ◌≤◌, Bool, true, false, ◌&&◌, ◌||◌, cond, eqb, List, [], ◌∷◌, ◌++◌, length, get_or, ◌⊎◌, inl, inr, ⊎_elim, refl, sym, ap, ◌∙◌, subst, arith, eq-eqb, eqb-true}
use Rattle.std.proofs.Math.ListN.{set}
use Rattle.std.proofs.lemmas.Bool.{and_parts}
use Rattle.marks.specs.declared.range.Range.{Range}
use Rattle.marks.specs.Places.{is_constant}
use Rattle.marks.specs.Ranges.{covers}
use Rattle.logical_clock.specs.Events.{Occurrence}
use Rattle.race_watch.specs.declared.seen.Seen.{Seen}
use Rattle.race_watch.specs.Hits.{In}
use Rattle.race_watch.specs.Told.{Told, Accessed, Happened, place, wrote, touched}
use Rattle.std.specs.Prelude.{not}
use Rattle.race_watch.specs.Tables.{ArePut}
use Rattle.race_watch.specs.Stands.{Found, IsLastSeen, AreAlike, Puts, IsAlikeAt}
use Rattle.race_watch.proofs.Earliest.{in_more, in_before, in_last}

abbrev pub last : Bool → ℕ → ℕ → List Told → ℕ
last write u x past = cond write (touched u x past) (wrote u x past)

pub last_step : (write : Bool) (u x t : ℕ) (range : Range) (w : Bool) (past : List Told) → last write u x (Accessed t range w ∷ past) ≡ cond (eqb t u && ((write || w) && covers range x)) (suc (place u past)) (last write u x past)
last_step true u x t range w past = refl
last_step false u x t range w past = refl

pub last_made : (write : Bool) (u x : ℕ) (m : Occurrence) (past : List Told) → last write u x (Happened m ∷ past) ≡ last write u x past
last_made true u x m past = refl
last_made false u x m past = refl

pub last_place : (write : Bool) (u x : ℕ) (past : List Told) → last write u x past ≤ suc (place u past)
last_place true u x [] = omega arith
last_place false u x [] = omega arith
last_place write u x (Accessed t range w ∷ past) = go (eqb t u && ((write || w) && covers range x)) (last_step write u x t range w past) (last_place write u x past)
  where
    go : (b : Bool) → last write u x (Accessed t range w ∷ past) ≡ cond b (suc (place u past)) (last write u x past) → last write u x past ≤ suc (place u past) → last write u x (Accessed t range w ∷ past) ≤ suc (place u past)
    go true e h = omega (arith, e)
    go false e h = omega (arith, e, h)
last_place write u x (Happened m ∷ past) = go (eqb m.thread u) (last_made write u x m past) (last_place write u x past)
  where
    go : (b : Bool) → last write u x (Happened m ∷ past) ≡ last write u x past → last write u x past ≤ suc (place u past) → last write u x (Happened m ∷ past) ≤ suc (cond b (suc (place u past)) (place u past))
    go true e h = omega (arith, e, h)
    go false e h = omega (arith, e, h)

pub true_not_false : true ≡ false → ⊥
true_not_false e = absurd cc

and_true : (a b c : Bool) → a ≡ true → b ≡ true → c ≡ true → (a && (b && c)) ≡ true
and_true true true true p q r = refl
and_true true true false p q r = absurd cc
and_true true false c p q r = absurd cc
and_true false b c p q r = absurd cc

-- a epoch or a place is no earlier than before
last_grows : (write : Bool) (u x t : ℕ) (range : Range) (w : Bool) (past : List Told) → last write u x past ≤ last write u x (Accessed t range w ∷ past)
last_grows write u x t range w past = go (eqb t u && ((write || w) && covers range x)) (last_step write u x t range w past)
  where
    go : (b : Bool) → last write u x (Accessed t range w ∷ past) ≡ cond b (suc (place u past)) (last write u x past) → last write u x past ≤ last write u x (Accessed t range w ∷ past)
    go true k = omega (arith, k, last_place write u x past)
    go false k = omega (arith, k)

-- the last write is an access
pub wrote_touched : (u x : ℕ) (past : List Told) → wrote u x past ≤ touched u x past
wrote_touched u x [] = omega arith
wrote_touched u x (Accessed t range w ∷ past) = go (eqb t u) w (covers range x) (wrote_touched u x past) (last_place true u x past)
  where
    go : (a b c : Bool) → wrote u x past ≤ touched u x past → touched u x past ≤ suc (place u past) → cond (a && (b && c)) (suc (place u past)) (wrote u x past) ≤ cond (a && c) (suc (place u past)) (touched u x past)
    go true true true h l = omega arith
    go true true false h l = h
    go true false true h l = omega (arith, h, l)
    go true false false h l = h
    go false b c h l = h
wrote_touched u x (Happened m ∷ past) = wrote_touched u x past

-- an access that the list has

pub last_seen_more : (past : List Told) (old new : List Seen) (epochs : Bool → ℕ → ℕ → ℕ) (t : ℕ) (range : Range) (w : Bool) (n : ℕ) → n ≡ place t past → IsLastSeen old epochs past → Puts old new (record { thread = t; place = n; range = range; write = w }) → IsLastSeen new epochs (Accessed t range w ∷ past)
last_seen_more past old new epochs t range w n is h p = record { sound = sound; below = λ write u x. omega (arith, h.below write u x, last_grows write u x t range w past); complete = complete }
  where
    sound : (s : Seen) (write : Bool) (x : ℕ) → In s new → (write || s.write) ≡ true → covers s.range x ≡ true → s.place < last write s.thread x (Accessed t range w ∷ past)
    sound s write x i e f = ⊎_elim before here (p.each s i)
      where
        before : In s old → s.place < last write s.thread x (Accessed t range w ∷ past)
        before j = go (eqb t s.thread && ((write || w) && covers range x)) (last_step write s.thread x t range w past)
          where
            go : (b : Bool) → last write s.thread x (Accessed t range w ∷ past) ≡ cond b (suc (place s.thread past)) (last write s.thread x past) → s.place < last write s.thread x (Accessed t range w ∷ past)
            go true k = omega (arith, k, h.sound s write x j e f, last_place write s.thread x past)
            go false k = omega (arith, k, h.sound s write x j e f)

        here : s ≡ record { thread = t; place = n; range = range; write = w } → s.place < last write s.thread x (Accessed t range w ∷ past)
        here k =
            let hit = and_true (eqb t s.thread) (write || w) (covers range x) (eq-eqb t s.thread (sym (ap (λ (y : Seen). y.thread) k))) (ap (λ (y : Seen). write || y.write) (sym k) ∙ e) (ap (λ (y : Seen). covers y.range x) (sym k) ∙ f) in
            let z = last_step write s.thread x t range w past ∙ ap (λ b. cond b (suc (place s.thread past)) (last write s.thread x past)) hit in
            omega (arith, z, ap (λ (y : Seen). y.place) k, ap (λ (y : Seen). place y.thread past) k, is)

    complete : (write : Bool) (u x k : ℕ) → is_constant x ≡ false → k < last write u x (Accessed t range w ∷ past) → Found new write u x k ⊎ (k < epochs write u x)
    complete write u x k free lt = go (eqb t u && ((write || w) && covers range x)) refl (last_step write u x t range w past)
      where
        go : (b : Bool) → (eqb t u && ((write || w) && covers range x)) ≡ b → last write u x (Accessed t range w ∷ past) ≡ cond b (suc (place u past)) (last write u x past) → Found new write u x k ⊎ (k < epochs write u x)
        go true e z =
            let a = and_parts (eqb t u) ((write || w) && covers range x) e in
            let b = and_parts (write || w) (covers range x) a.1 in
            let same = eqb-true t u a.0 in
            inl (record { one = record { thread = t; place = n; range = range; write = w }; one_in = p.has; of = same; counts = b.0; covered = b.1; later = omega (arith, lt, z, is, ap (λ y. place y past) same) })
        go false e z = ⊎_elim (λ f. inl (moved f)) inr (h.complete write u x k free (omega (arith, lt, z)))
          where
            moved : Found old write u x k → Found new write u x k
            moved f =
                ⊎_elim
                (λ j. record { one = f.one; one_in = j; of = f.of; counts = f.counts; covered = f.covered; later = f.later })
                (λ j.
                let s = h.sound f.one write x f.one_in f.counts f.covered in
                let l = last_place write f.one.thread x past in
                let same : t ≡ u = sym j.0 ∙ f.of in
                record { one = record { thread = t; place = n; range = range; write = w }; one_in = p.has; of = same; counts = ap (λ v. write || v) (sym j.2) ∙ f.counts; covered = ap (λ v. covers v x) (sym j.1) ∙ f.covered; later = omega (arith, f.later, s, l, is, ap (λ y. place y past) j.0) })
                (p.keeps f.one f.one_in)

-- an access that the epochs have

pub last_epochs_more : (past : List Told) (seen : List Seen) (old new : Bool → ℕ → ℕ → ℕ) (t : ℕ) (range : Range) (w : Bool) (n : ℕ) → n ≡ place t past → IsLastSeen seen old past → ArePut old new (record { thread = t; place = n; range = range; write = w }) → IsLastSeen seen new (Accessed t range w ∷ past)
last_epochs_more past seen old new t range w n is h p = record { sound = sound; below = below; complete = complete }
  where
    sound : (s : Seen) (write : Bool) (x : ℕ) → In s seen → (write || s.write) ≡ true → covers s.range x ≡ true → s.place < last write s.thread x (Accessed t range w ∷ past)
    sound s write x i e f = omega (arith, h.sound s write x i e f, last_grows write s.thread x t range w past)

    below : (write : Bool) (u x : ℕ) → new write u x ≤ last write u x (Accessed t range w ∷ past)
    below write u x = go (eqb t u && ((write || w) && covers range x)) refl (last_step write u x t range w past) (p write u x)
      where
        go : (b : Bool) → (eqb t u && ((write || w) && covers range x)) ≡ b → last write u x (Accessed t range w ∷ past) ≡ cond b (suc (place u past)) (last write u x past) → new write u x ≡ cond b (suc n) (old write u x) → new write u x ≤ last write u x (Accessed t range w ∷ past)
        go true e k m =
            let a = and_parts (eqb t u) ((write || w) && covers range x) e in
            omega (arith, k, m, is, ap (λ y. place y past) (eqb-true t u a.0))
        go false e k m = omega (arith, k, m, h.below write u x)

    complete : (write : Bool) (u x k : ℕ) → is_constant x ≡ false → k < last write u x (Accessed t range w ∷ past) → Found seen write u x k ⊎ (k < new write u x)
    complete write u x k free lt = go (eqb t u && ((write || w) && covers range x)) refl (last_step write u x t range w past) (p write u x)
      where
        go : (b : Bool) → (eqb t u && ((write || w) && covers range x)) ≡ b → last write u x (Accessed t range w ∷ past) ≡ cond b (suc (place u past)) (last write u x past) → new write u x ≡ cond b (suc n) (old write u x) → Found seen write u x k ⊎ (k < new write u x)
        go true e z m =
            let a = and_parts (eqb t u) ((write || w) && covers range x) e in
            inr (omega (arith, lt, z, m, is, ap (λ y. place y past) (eqb-true t u a.0)))
        go false e z m = ⊎_elim (λ f. inl f) (λ l. inr (omega (arith, l, m))) (h.complete write u x k free (omega (arith, lt, z)))

-- an access of constants, of which nothing is kept

pub last_constants_more : (past : List Told) (seen : List Seen) (epochs : Bool → ℕ → ℕ → ℕ) (t : ℕ) (range : Range) (w : Bool) → IsLastSeen seen epochs past → ((x : ℕ) → covers range x ≡ true → is_constant x ≡ true) → IsLastSeen seen epochs (Accessed t range w ∷ past)
last_constants_more past seen epochs t range w h all = record { sound = sound; below = λ write u x. omega (arith, h.below write u x, last_grows write u x t range w past); complete = complete }
  where
    sound : (s : Seen) (write : Bool) (x : ℕ) → In s seen → (write || s.write) ≡ true → covers s.range x ≡ true → s.place < last write s.thread x (Accessed t range w ∷ past)
    sound s write x i e f = omega (arith, h.sound s write x i e f, last_grows write s.thread x t range w past)

    complete : (write : Bool) (u x k : ℕ) → is_constant x ≡ false → k < last write u x (Accessed t range w ∷ past) → Found seen write u x k ⊎ (k < epochs write u x)
    complete write u x k free lt = go (eqb t u && ((write || w) && covers range x)) refl (last_step write u x t range w past)
      where
        go : (b : Bool) → (eqb t u && ((write || w) && covers range x)) ≡ b → last write u x (Accessed t range w ∷ past) ≡ cond b (suc (place u past)) (last write u x past) → Found seen write u x k ⊎ (k < epochs write u x)
        go true e z =
            let a = and_parts (eqb t u) ((write || w) && covers range x) e in
            let b = and_parts (write || w) (covers range x) a.1 in
            absurd (true_not_false (sym (all x b.1) ∙ free))
        go false e z = h.complete write u x k free (omega (arith, lt, z))

-- where the thread's epochs stand at its place already, they are those after the access
pub settled_put : (past : List Told) (seen : List Seen) (epochs : Bool → ℕ → ℕ → ℕ) (t : ℕ) (range : Range) (w : Bool) (n : ℕ) → n ≡ place t past → IsLastSeen seen epochs past → ((u x : ℕ) → epochs false u x ≤ epochs true u x) → ((x : ℕ) → covers range x ≡ true → epochs (not w) t x ≡ n + 1) → ArePut epochs epochs (record { thread = t; place = n; range = range; write = w })
settled_put past seen epochs t range w n is h ordered all = λ touched_too u x. go (eqb t u && ((touched_too || w) && covers range x)) touched_too u x refl
  where
    at_both : (w touched_too : Bool) (x : ℕ) → (touched_too || w) ≡ true → epochs (not w) t x ≡ n + 1 → epochs touched_too t x ≡ suc n
    at_both true true x e m = omega (arith, m, ordered t x, h.below true t x, last_place true t x past, is)
    at_both true false x e m = omega (arith, m)
    at_both false true x e m = omega (arith, m)
    at_both false false x e m = absurd cc

    go : (b : Bool) (touched_too : Bool) (u x : ℕ) → (eqb t u && ((touched_too || w) && covers range x)) ≡ b → epochs touched_too u x ≡ cond b (suc n) (epochs touched_too u x)
    go true touched_too u x e =
        let a = and_parts (eqb t u) ((touched_too || w) && covers range x) e in
        let b = and_parts (touched_too || w) (covers range x) a.1 in
        subst (λ y. epochs touched_too y x ≡ suc n) (eqb-true t u a.0) (at_both w touched_too x b.0 (all x b.1))
    go false touched_too u x e = refl

-- lists with one more

pub push_puts : (old : List Seen) (one : Seen) → Puts old (old ++ one ∷ []) one
push_puts old one = record { each = λ s i. in_more s old one i; has = in_last old one; keeps = λ s i. inl (in_before s old one i) }

set_has : (old : List Seen) (i : ℕ) (one : Seen) → i < length old → In one (set old i one)
set_has [] i one lt = absurd (omega (arith, lt))
set_has (x ∷ xs) zero one lt = inl refl
set_has (x ∷ xs) (suc i) one lt = inr (set_has xs i one (omega (arith, lt)))

set_each : (old : List Seen) (i : ℕ) (one s : Seen) → In s (set old i one) → In s old ⊎ (s ≡ one)
set_each [] i one s h = absurd h
set_each (x ∷ xs) zero one s (inl e) = inr e
set_each (x ∷ xs) zero one s (inr h) = inl (inr h)
set_each (x ∷ xs) (suc i) one s (inl e) = inl (inl e)
set_each (x ∷ xs) (suc i) one s (inr h) = ⊎_elim (λ j. inl (inr j)) inr (set_each xs i one s h)

set_keeps : (old : List Seen) (i : ℕ) (one s : Seen) → i < length old → ((d : Seen) → AreAlike (get_or old i d) one) → In s old → In s (set old i one) ⊎ AreAlike s one
set_keeps [] i one s lt a h = absurd h
set_keeps (x ∷ xs) zero one s lt a (inl e) = inr (subst (λ y. AreAlike y one) (sym e) (a x))
set_keeps (x ∷ xs) zero one s lt a (inr h) = inl (inr h)
set_keeps (x ∷ xs) (suc i) one s lt a (inl e) = inl (inl e)
set_keeps (x ∷ xs) (suc i) one s lt a (inr h) = ⊎_elim (λ j. inl (inr j)) inr (set_keeps xs i one s (omega (arith, lt)) a h)

pub set_puts : (old : List Seen) (i : ℕ) (one : Seen) → IsAlikeAt old i one → Puts old (set old i one) one
set_puts old i one a = record { each = λ s h. set_each old i one s h; has = set_has old i one a.within; keeps = λ s h. set_keeps old i one s a.within a.alike h }

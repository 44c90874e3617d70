-- What a thread accessed since its last event no other thread accesses unknown to it.
use Rattle.std.proofs.Common.{◌≡◌, ◌≢◌, ℕ, suc, ◌+◌, ◌^◌, ◌<◌, ◌≤◌, max, Bool, true, false, ◌&&◌, ◌||◌, cond, eqb, List, [], ◌∷◌, ⊎_elim, refl, sym, ap, ◌∙◌, subst, arith, eqb-true}
use Rattle.std.specs.Prelude.{not, ltb, nat_le, nat_lt}
use Rattle.std.proofs.lemmas.Bool.{and_parts}
use Rattle.std.proofs.lemmas.Bool.Decides.{nat_tests}
use Rattle.marks.specs.declared.range.Range.{Range}
use Rattle.marks.specs.Places.{is_constant}
use Rattle.marks.specs.Ranges.{covers, IsInRange}
use Rattle.causal_order.specs.Order.{Link, OfThread}
use Rattle.logical_clock.specs.Events.{Occurrence, has}
use Rattle.logical_clock.specs.Counts.{latest}
use Rattle.logical_clock.proofs.Longest.{latest_le, link_le}
use Rattle.race_watch.specs.declared.seen.Seen.{Seen}
use Rattle.race_watch.specs.Told.{Told, Accessed, Happened, place, wrote, touched, learned, knows}
use Rattle.race_watch.specs.Stands.{Found, IsLastSeen, IsQuiet, NoRace}
use Rattle.race_watch.proofs.Last.{last, last_step, last_place, wrote_touched}

-- no more events of a thread are known than it made
pub knows_le : (past : List Told) (l : Link) (u : ℕ) → knows past l u ≤ place u past
knows_le [] l u = omega arith
knows_le (Accessed t range write ∷ past) l u = knows_le past l u
knows_le (Happened m ∷ past) l u = go (has m l) (eqb m.thread u) refl (latest_le (λ l. knows past l u) m (place u past) (λ l. knows_le past l u)) (knows_le past l u)
  where
    go : (a b : Bool) → eqb m.thread u ≡ b → latest (λ l. knows past l u) m ≤ place u past → knows past l u ≤ place u past → cond a (max (cond b (suc (place m.thread past)) 0) (latest (λ l. knows past l u) m)) (knows past l u) ≤ cond b (suc (place u past)) (place u past)
    go true true e h k = omega (arith, h, ap (λ y. place y past) (eqb-true m.thread u e))
    go true false e h k = omega (arith, h)
    go false true e h k = omega (arith, k)
    go false false e h k = k

-- nothing that a thread knows is forgotten
pub knows_more : (past : List Told) (m : Occurrence) (t u : ℕ) → knows past (OfThread t) u ≤ knows (Happened m ∷ past) (OfThread t) u
knows_more past m t u = go (eqb m.thread t) refl
  where
    go : (b : Bool) → eqb m.thread t ≡ b → knows past (OfThread t) u ≤ cond b (learned (knows past) (place m.thread past) m u) (knows past (OfThread t) u)
    go true e = omega (arith, link_le (λ l. knows past l u) m (OfThread t) e)
    go false e = omega arith

pub quiet_event : (past : List Told) (m : Occurrence) → IsQuiet past → IsQuiet (Happened m ∷ past)
quiet_event past m q write t u x ne k small lt = go write (eqb m.thread t) refl lt
  where
    go : (write b : Bool) → eqb m.thread t ≡ b → cond b (suc (place t past)) (place t past) < cond write (wrote t x past) (touched t x past) → cond write (touched u x past) (wrote u x past) ≤ knows (Happened m ∷ past) (OfThread t) u
    go true true e l = absurd (omega (arith, l, last_place false t x past))
    go false true e l = absurd (omega (arith, l, last_place true t x past))
    go true false e l = omega (arith, q true t u x ne k small l, knows_more past m t u)
    go false false e l = omega (arith, q false t u x ne k small l, knows_more past m t u)

pub in_it : (r : Range) (x : ℕ) → covers r x ≡ true → x < 2 ^ 64 → IsInRange r x
in_it r x e lt =
    let p = and_parts (nat_le r.addr x) (nat_lt x (r.addr + r.len)) e in
    (grind (arith, nat_tests), grind (arith, nat_tests), lt)

turned : (b : Bool) (m n : ℕ) → cond (not b) m n ≡ cond b n m
turned true m n = refl
turned false m n = refl

pub quiet_access : (past : List Told) (t : ℕ) (range : Range) (w : Bool) → NoRace past t range w → IsQuiet past → IsQuiet (Accessed t range w ∷ past)
quiet_access past t range w none q write s u x ne k small lt = by_step (eqb t s && ((not write || w) && covers range x)) (eqb t u && ((write || w) && covers range x)) refl refl (last_step (not write) s x t range w past) (last_step write u x t range w past)
  where
    free : (v : ℕ) → v ≢ t → covers range x ≡ true → last w v x past ≤ knows past (OfThread t) v
    free v other c = go (ltb (knows past (OfThread t) v) (last w v x past)) refl
      where
        go : (b : Bool) → ltb (knows past (OfThread t) v) (last w v x past) ≡ b → last w v x past ≤ knows past (OfThread t) v
        go true e = absurd (none x v (in_it range x c small) (record { other = other; no_constant = k; unknown = grind (arith, nat_tests) }))
        go false e = grind (arith, nat_tests)

    own : last (not write) s x (Accessed t range w ∷ past) ≡ cond write (wrote s x (Accessed t range w ∷ past)) (touched s x (Accessed t range w ∷ past))
    own = turned write (touched s x (Accessed t range w ∷ past)) (wrote s x (Accessed t range w ∷ past))

    before : last (not write) s x past ≡ cond write (wrote s x past) (touched s x past)
    before = turned write (touched s x past) (wrote s x past)

    -- the thread's own access now
    mine : (write w : Bool) → (not write || w) ≡ true → last w u x past ≤ knows past (OfThread s) u → last write u x past ≤ knows past (OfThread s) u
    mine true true e h = h
    mine false true e h = omega (arith, h, wrote_touched u x past)
    mine false false e h = h
    mine true false e h = absurd cc

    -- the other's access now
    its : (write w : Bool) → (write || w) ≡ true → last w s x past ≤ place s past → last (not write) s x past ≤ place s past
    its true true e h = omega (arith, h, wrote_touched s x past)
    its false true e h = h
    its true false e h = h
    its false false e h = absurd cc

    by_step : (a b : Bool) → (eqb t s && ((not write || w) && covers range x)) ≡ a → (eqb t u && ((write || w) && covers range x)) ≡ b → last (not write) s x (Accessed t range w ∷ past) ≡ cond a (suc (place s past)) (last (not write) s x past) → last write u x (Accessed t range w ∷ past) ≡ cond b (suc (place u past)) (last write u x past) → last write u x (Accessed t range w ∷ past) ≤ knows past (OfThread s) u
    by_step true true d e f g =
        let a = and_parts (eqb t s) ((not write || w) && covers range x) d in
        let b = and_parts (eqb t u) ((write || w) && covers range x) e in
        absurd (ne (sym (eqb-true t u b.0) ∙ eqb-true t s a.0))
    by_step true false d e f g =
        let a = and_parts (eqb t s) ((not write || w) && covers range x) d in
        let c = and_parts (not write || w) (covers range x) a.1 in
        let is : t ≡ s = eqb-true t s a.0 in
        let h : last w u x past ≤ knows past (OfThread s) u = subst (λ y. last w u x past ≤ knows past (OfThread y) u) is (free u (λ z. ne (z ∙ is)) c.1) in
        omega (arith, g, mine write w c.0 h)
    by_step false true d e f g =
        let b = and_parts (eqb t u) ((write || w) && covers range x) e in
        let c = and_parts (write || w) (covers range x) b.1 in
        let is : t ≡ u = eqb-true t u b.0 in
        let h : last w s x past ≤ knows past (OfThread t) s = free s (λ z. ne (sym is ∙ sym z)) c.1 in
        absurd (omega (arith, lt, own, f, its write w c.0 (omega (arith, h, knows_le past (OfThread t) s))))
    by_step false false d e f g = omega (arith, g, q write s u x ne k small (omega (arith, lt, own, f, before)))

-- what stands for one past stands for another: the last accesses are the same
pub same_last : (seen : List Seen) (epochs : Bool → ℕ → ℕ → ℕ) (past other : List Told) (write : Bool) (u x n : ℕ) → IsLastSeen seen epochs past → IsLastSeen seen epochs other → is_constant x ≡ false → n < last write u x past → n < last write u x other
same_last seen epochs past other write u x n h g free lt = ⊎_elim in_list by_epoch (h.complete write u x n free lt)
  where
    in_list : Found seen write u x n → n < last write u x other
    in_list f = subst (λ y. n < last write y x other) f.of (omega (arith, g.sound f.one write x f.one_in f.counts f.covered, f.later))

    by_epoch : n < epochs write u x → n < last write u x other
    by_epoch l = omega (arith, l, g.below write u x)

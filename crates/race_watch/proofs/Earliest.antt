-- The first race with what was seen, one access further.
use Rattle.std.proofs.Common.{◌≡◌, ℕ, ◌<◌, ◌≤◌, Bool, true, false, ◌&&◌, ◌||◌, cond, eqb, ltb, List, [], ◌∷◌, ◌++◌, Option, Some, None, ◌⊎◌, inl, inr, ⊎_elim, refl, sym, subst, arith}
use Rattle.std.proofs.lemmas.Bool.Decides.{nat_tests}
use Rattle.marks.specs.Ranges.{IsInRange, IsLeastIn, NoneIn, IsFirstIn}
use Rattle.race_watch.specs.declared.seen.Seen.{Seen}
use Rattle.race_watch.specs.declared.first.Tested.{Tested}
use Rattle.race_watch.specs.Hits.{Hits, In, IsFirstOf, IsFirstHit, earlier}

pub in_more : (y : Seen) (xs : List Seen) (s : Seen) → In y (xs ++ s ∷ []) → In y xs ⊎ (y ≡ s)
in_more y [] s (inl e) = inr e
in_more y [] s (inr h) = absurd h
in_more y (x ∷ xs) s (inl e) = inl (inl e)
in_more y (x ∷ xs) s (inr h) = ⊎_elim (λ i. inl (inr i)) inr (in_more y xs s h)

pub in_before : (y : Seen) (xs : List Seen) (s : Seen) → In y xs → In y (xs ++ s ∷ [])
in_before y [] s h = absurd h
in_before y (x ∷ xs) s (inl e) = inl e
in_before y (x ∷ xs) s (inr h) = inr (in_before y xs s h)

pub in_last : (xs : List Seen) (s : Seen) → In s (xs ++ s ∷ [])
in_last [] s = inl refl
in_last (x ∷ xs) s = inr (in_last xs s)

pub comes : (x u at t : ℕ) → (ltb x at || (eqb x at && ltb u t)) ≡ true → (x < at) ⊎ ((x ≡ at) × (u < t))
comes x u at t e = go (ltb x at) (eqb x at) (ltb u t) refl refl refl e
  where
    go : (a b c : Bool) → ltb x at ≡ a → eqb x at ≡ b → ltb u t ≡ c → (a || (b && c)) ≡ true → (x < at) ⊎ ((x ≡ at) × (u < t))
    go true b c f g h e = inl (grind (arith, nat_tests))
    go false true true f g h e = inr (grind (arith, nat_tests), grind (arith, nat_tests))
    go false true false f g h e = absurd cc
    go false false c f g h e = absurd cc

pub stays : (x u at t : ℕ) → (ltb x at || (eqb x at && ltb u t)) ≡ false → (at ≤ x) × (x ≡ at → t ≤ u)
stays x u at t e = go (ltb x at) (eqb x at) (ltb u t) refl refl refl e
  where
    go : (a b c : Bool) → ltb x at ≡ a → eqb x at ≡ b → ltb u t ≡ c → (a || (b && c)) ≡ false → (at ≤ x) × (x ≡ at → t ≤ u)
    go true b c f g h e = absurd cc
    go false true true f g h e = absurd cc
    go false true false f g h e = (grind (arith, nat_tests), λ _. grind (arith, nat_tests))
    go false false c f g h e = (grind (arith, nat_tests), λ is. grind (arith, nat_tests))

none_more : (a : Tested) (seen : List Seen) (s : Seen) → ((y : Seen) (x : ℕ) → In y seen → IsInRange a.range x → Hits a y x → ⊥) → NoneIn a.range (Hits a s) → (y : Seen) (x : ℕ) → In y (seen ++ s ∷ []) → IsInRange a.range x → Hits a y x → ⊥
none_more a seen s h n y x i r w = ⊎_elim (λ j. h y x j r w) (λ is. n x r (subst (λ z. Hits a z x) is w)) (in_more y seen s i)

first_same : (a : Tested) (seen : List Seen) (s : Seen) (addr other : ℕ) → IsFirstOf a seen addr other → ((x : ℕ) → IsInRange a.range x → Hits a s x → (addr ≤ x) × (x ≡ addr → other ≤ s.thread)) → IsFirstOf a (seen ++ s ∷ []) addr other
first_same a seen s addr other h n =
    record {
      in_range = h.in_range;
      by = (h.by.0, in_before h.by.0 seen s h.by.1, h.by.2, h.by.3);
      least = λ y x i r w. ⊎_elim (λ j. h.least y x j r w) (λ is. let k = n x r (subst (λ z. Hits a z x) is w) in (k.0, λ e. subst (λ z. other ≤ z.thread) (sym is) (k.1 e))) (in_more y seen s i);
    }

first_new : (a : Tested) (seen : List Seen) (s : Seen) (addr : ℕ) → IsLeastIn a.range (Hits a s) addr → ((y : Seen) (x : ℕ) → In y seen → IsInRange a.range x → Hits a y x → (addr ≤ x) × (x ≡ addr → s.thread ≤ y.thread)) → IsFirstOf a (seen ++ s ∷ []) addr s.thread
first_new a seen s addr f n =
    record {
      in_range = f.in_range;
      by = (s, in_last seen s, refl, f.holds);
      least = λ y x i r w. ⊎_elim (λ j. n y x j r w) (λ is. (f.least x r (subst (λ z. Hits a z x) is w), λ e. subst (λ z. s.thread ≤ z.thread) (sym is) (omega arith))) (in_more y seen s i);
    }

pub first_more : (a : Tested) (seen : List Seen) (s : Seen) (best : Option (ℕ × ℕ)) (found : Option ℕ) → IsFirstHit a seen best → IsFirstIn a.range (Hits a s) found → IsFirstHit a (seen ++ s ∷ []) (earlier best found s.thread)
first_more a seen s None None h n = none_more a seen s h n
first_more a seen s (Some p) None h n = first_same a seen s p.0 p.1 h (λ x r w. absurd (n x r w))
first_more a seen s None (Some addr) h f = first_new a seen s addr f (λ y x i r w. absurd (h y x i r w))
first_more a seen s (Some p) (Some addr) h f = go (ltb addr p.0 || (eqb addr p.0 && ltb s.thread p.1)) refl
  where
    go : (b : Bool) → (ltb addr p.0 || (eqb addr p.0 && ltb s.thread p.1)) ≡ b → IsFirstHit a (seen ++ s ∷ []) (cond b (Some (addr, s.thread)) (Some p))
    go true e = first_new a seen s addr f (λ y x i r w. before (comes addr s.thread p.0 p.1 e) y x (h.least y x i r w))
      where
        before : (addr < p.0) ⊎ ((addr ≡ p.0) × (s.thread < p.1)) → (y : Seen) (x : ℕ) → (p.0 ≤ x) × (x ≡ p.0 → p.1 ≤ y.thread) → (addr ≤ x) × (x ≡ addr → s.thread ≤ y.thread)
        before (inl lt) y x k = (omega (arith, lt, k.0), λ is. absurd (omega (arith, lt, k.0, is)))
        before (inr w) y x k = (omega (arith, w.0, k.0), λ is. let z = k.1 (omega (arith, is, w.0)) in omega (arith, z, w.1))
    go false e =
        let w = stays addr s.thread p.0 p.1 e in
        first_same a seen s p.0 p.1 h (λ x r hit. let k = f.least x r hit in (omega (arith, k, w.0), λ is. w.1 (omega (arith, k, w.0, is))))

-- What is known after a mark of the accesses before it.
use Rattle.std.proofs.Common.{◌≡◌, ◌⊎◌, inl, inr, ⊎_elim, ℕ, suc, ◌<◌, ◌≤◌, Bool, true, false, ◌&&◌, cond, eqb, List, [], ◌∷◌, length, refl, sym, ap, ◌∙◌, arith, eq-eqb, eqb-true}
use Rattle.std.proofs.lemmas.Bool.{and_parts, and_from, or_cases, true≢false, cases_eq}
use Rattle.run_events.specs.declared.key.Key.{Key}
use Rattle.run_events.specs.declared.key.KeyMark.{KeyMark}
use Rattle.marks.specs.Marks.{Mark, is_event}
use Rattle.marks.specs.Bytes.{writes, touches, late, place}
use Rattle.marks.proofs.Touched.{or_true_right}
use Rattle.replay_runs.specs.Runs.{Link, OfThread, OfKey, In, Start, same_key, keys_of, is_listed, has, events_with, Rules, Run}
use Rattle.replay_runs.specs.Known.{learned_keys, learned, known, known_at, NoRace}
use Rattle.replay_runs.proofs.Keys.{same_key_true}
use Rattle.replay_runs.proofs.Facts.{place_in}
use Rattle.replay_runs.specs.Unseen.{AreKnown}
use Rattle.replay_runs.proofs.Blocks.{cond_true}

keys_tell : (k : Link → ℕ → ℕ) (qs : List KeyMark) (t : ℕ) (j : Key) → is_listed qs j ≡ true → k (OfKey j) t ≤ learned_keys k qs t
keys_tell k [] t j e = absurd (true≢false (sym e))
keys_tell k (q ∷ qs) t j e =
    ⊎_elim
    (λ f. let z : k (OfKey q.key) t ≡ k (OfKey j) t = ap (λ x. k (OfKey x) t) (same_key_true q.key j f) in
    omega (arith, z))
    (λ f. omega (arith, keys_tell k qs t j f))
    (or_cases (same_key q.key j) (is_listed qs j) e)

learned_tells : (k : Link → ℕ → ℕ) (m : Mark) (t : ℕ) (l : Link) → has m l ≡ true → k l t ≤ learned k m t
learned_tells k m t (OfThread u) e =
    let z : k (OfThread u) t ≡ k (OfThread m.thread) t = ap (λ x. k (OfThread x) t) (sym (eqb-true m.thread u (and_parts (is_event m.act) (eqb m.thread u) e).1)) in
    omega (arith, z)
learned_tells k m t (OfKey j) e = omega (arith, keys_tell k (keys_of m.act) t j e)

thread_tells : (k : Link → ℕ → ℕ) (m : Mark) (t : ℕ) → k (OfThread m.thread) t ≤ learned k m t
thread_tells k m t = omega arith

learned_own : (k : Link → ℕ → ℕ) (m : Mark) → suc m.index ≤ learned k m m.thread
learned_own k m =
    let z : cond (eqb m.thread m.thread) (suc m.index) 0 ≡ suc m.index = cond_true (eqb m.thread m.thread) (suc m.index) 0 (eq-eqb _ _ refl) in
    omega (arith, z)

pub known_grows : (past : List Mark) (m : Mark) (l : Link) (u : ℕ) → known past l u ≤ known (m ∷ past) l u
known_grows past m l u = go (has m l) refl
  where
    go : (b : Bool) → has m l ≡ b → known past l u ≤ cond b (learned (known past) m u) (known past l u)
    go true e = learned_tells (known past) m u l e
    go false e = omega arith

-- what was known stays known, where the mark doesn't touch the byte
pub stays_known : (past : List Mark) (m : Mark) (l : Link) (x : ℕ) → touches m.act x ≡ false → AreKnown past l x → AreKnown (m ∷ past) l x
stays_known past m l x e k a (inl is) own z = absurd (true≢false (sym z ∙ ap (λ y. touches y.act x) is ∙ e))
stays_known past m l x e k a (inr i) own z = omega (arith, k a i own z, known_grows past m l a.thread)

-- where a mark writes a byte and races with nothing, its thread knows of all accesses before
module _ (r : Rules) (s : Start) (past : List Mark) (m : Mark) (steps : Run r s past) (index : m.index ≡ length (events_with s (OfThread m.thread) past)) (free : NoRace past m) (x : ℕ) (w : writes m.act x ≡ true) (early : late m.act ≡ false) where
  others : (a : Mark) → In a past → (a.thread ≡ m.thread → ⊥) → touches a.act x ≡ true → place a < known past (OfThread m.thread) a.thread
  others a i ne z =
      let lt = free a i ne x (or_true_right (writes a.act x && touches m.act x) (touches a.act x && writes m.act x) (and_from (touches a.act x) (writes m.act x) z w)) in
      let k : known_at past m a.thread ≡ known past (OfThread m.thread) a.thread = ap (λ b. cond b (known (m ∷ past) (OfThread m.thread) a.thread) (known past (OfThread m.thread) a.thread)) early in
      omega (arith, lt, k)

  pub thread_knows : AreKnown (m ∷ past) (OfThread m.thread) x
  thread_knows a (inl is) own z = absurd (true≢false (sym (eq-eqb m.thread a.thread (ap (λ y. y.thread) (sym is))) ∙ own))
  thread_knows a (inr i) own z = omega (arith, others a i (λ e. true≢false (sym (eq-eqb m.thread a.thread (sym e)) ∙ own)) z, known_grows past m (OfThread m.thread) a.thread)

  own_place : (a : Mark) → place a ≤ m.index → a.thread ≡ m.thread → place a < learned (known past) m a.thread
  own_place a le e =
      let y : learned (known past) m m.thread ≡ learned (known past) m a.thread = ap (learned (known past) m) (sym e) in
      omega (arith, le, y, learned_own (known past) m)

  pub key_knows : (k : Key) → has m (OfKey k) ≡ true → AreKnown (m ∷ past) (OfKey k) x
  key_knows k h a i own z = let y = cond_true (has m (OfKey k)) (learned (known past) m a.thread) (known past (OfKey k) a.thread) h in omega (arith, y, told i)
    where
      here : place m ≡ m.index
      here = ap (λ b. cond b (suc m.index) m.index) early

      told : (a ≡ m) ⊎ In a past → place a < learned (known past) m a.thread
      told (inl is) = let p : place a ≡ place m = ap place is in own_place a (omega (arith, p, here)) (ap (λ y. y.thread) is)
      told (inr i) = ⊎_elim
          (λ e. let n : length (events_with s (OfThread a.thread) past) ≡ length (events_with s (OfThread m.thread) past) = ap (λ u. length (events_with s (OfThread u) past)) e in
          own_place a (omega (arith, place_in r s past steps a i, n, index)) e)
          (λ ne. omega (arith, others a i ne z, thread_tells (known past) m a.thread))
          (cases_eq a.thread m.thread)

-- what the link of a late access knew of the byte, its thread knows at the access
pub late_knows : (past : List Mark) (m : Mark) (l : Link) (u : ℕ) → late m.act ≡ true → is_event m.act ≡ true → has m l ≡ true → known past l u ≤ known_at past m u
late_knows past m l u lt made h =
    let k : known_at past m u ≡ known (m ∷ past) (OfThread m.thread) u = ap (λ b. cond b (known (m ∷ past) (OfThread m.thread) u) (known past (OfThread m.thread) u)) lt in
    let y = cond_true (has m (OfThread m.thread)) (learned (known past) m u) (known past (OfThread m.thread) u) (and_from (is_event m.act) (eqb m.thread m.thread) made (eq-eqb _ _ refl)) in
    omega (arith, k, y, learned_tells (known past) m u l h)

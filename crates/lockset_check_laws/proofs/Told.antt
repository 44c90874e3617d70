-- What is known is never forgotten, in any list of marks.
use Rattle.std.proofs.Common.{◌≡◌, ℕ, suc, ◌<◌, ◌≤◌, Bool, true, false, cond, eqb, List, [], ◌∷◌, ⊎_elim, refl, sym, ap, arith, eq-eqb, eqb-true}
use Rattle.std.proofs.lemmas.Bool.{and_parts, or_cases}
use Rattle.run_events.specs.declared.key.Key.{Key}
use Rattle.run_events.specs.declared.key.KeyMark.{KeyMark}
use Rattle.marks.specs.Marks.{Mark, is_event}
use Rattle.replay_runs.specs.Runs.{Link, OfThread, OfKey, keys_of, same_key, is_listed, has}
use Rattle.replay_runs.specs.Known.{learned_keys, learned, known}
use Rattle.replay_runs.proofs.Keys.{same_key_true}
use Rattle.replay_runs.proofs.Same.{cond_true}

keys_tell : (k : Link → ℕ → ℕ) (qs : List KeyMark) (t : ℕ) (j : Key) → is_listed qs j ≡ true → k (OfKey j) t ≤ learned_keys k qs t
keys_tell k [] t j e = absurd cc
keys_tell k (q ∷ qs) t j e =
    ⊎_elim
    (λ f. let z : k (OfKey q.key) t ≡ k (OfKey j) t = ap (λ x. k (OfKey x) t) (same_key_true q.key j f) in
    omega (arith, z))
    (λ f. omega (arith, keys_tell k qs t j f))
    (or_cases (same_key q.key j) (is_listed qs j) e)

-- an event tells what each of its links told
learned_tells : (k : Link → ℕ → ℕ) (m : Mark) (t : ℕ) (l : Link) → has m l ≡ true → k l t ≤ learned k m t
learned_tells k m t (OfThread u) e =
    let z : k (OfThread u) t ≡ k (OfThread m.thread) t = ap (λ x. k (OfThread x) t) (sym (eqb-true m.thread u (and_parts (is_event m.act) (eqb m.thread u) e).1)) in
    omega (arith, z)
learned_tells k m t (OfKey j) e = omega (arith, keys_tell k (keys_of m.act) t j e)

-- an event tells of itself
learned_own : (k : Link → ℕ → ℕ) (m : Mark) → m.index < learned k m m.thread
learned_own k m =
    let z : cond (eqb m.thread m.thread) (suc m.index) 0 ≡ suc m.index = cond_true (eqb m.thread m.thread) (suc m.index) 0 (eq-eqb _ _ refl) in
    omega (arith, z)

pub known_grows : (m : Mark) (past : List Mark) (l : Link) (t : ℕ) → known past l t ≤ known (m ∷ past) l t
known_grows m past l t = go (has m l) refl
  where
    go : (b : Bool) → has m l ≡ b → known past l t ≤ cond b (learned (known past) m t) (known past l t)
    go true e = learned_tells (known past) m t l e
    go false e = omega arith

-- by each of its links an event tells what one of them told
pub known_passes : (m : Mark) (past : List Mark) (j l : Link) (t : ℕ) → has m j ≡ true → has m l ≡ true → known past j t ≤ known (m ∷ past) l t
known_passes m past j l t ej el =
    let z = cond_true (has m l) (learned (known past) m t) (known past l t) el in
    omega (arith, z, learned_tells (known past) m t j ej)

-- and of itself
pub known_itself : (m : Mark) (past : List Mark) (l : Link) (t : ℕ) → has m l ≡ true → m.thread ≡ t → m.index < known (m ∷ past) l t
known_itself m past l t e is =
    let z = cond_true (has m l) (learned (known past) m t) (known past l t) e in
    let y : learned (known past) m m.thread ≡ learned (known past) m t = ap (learned (known past) m) is in
    omega (arith, z, y, learned_own (known past) m)

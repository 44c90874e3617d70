-- Threads are numbered as they are started.
use Rattle.std.proofs.Common.{◌≡◌, ℕ, suc, ◌<◌, ◌≤◌, Bool, true, false, cond, ◌&&◌, eqb, List, [], ◌∷◌, length, Option, Some, refl, ap, ◌∙◌, arith, eqb-true, eq-eqb}
use Rattle.std.specs.Prelude.{filter, find}
use Rattle.whole_runs.specs.Outcomes.{Outcome, is_start}

-- how many threads these start
abbrev pub starts : List Outcome → ℕ
starts os = length (filter is_start os)

abbrev pub starts_thread : ℕ → Outcome → Bool
starts_thread t o = is_start o && eqb o.result t

abbrev pub start_of : ℕ → List Outcome → Option Outcome
start_of t os = find (starts_thread t) os

-- each has the number of those before it, and thread 0 beside them
abbrev pub Numbered : List Outcome → Type 0
Numbered [] = Unit {0}
Numbered (o ∷ os) = (is_start o ≡ true → o.result ≡ suc (starts os)) × Numbered os

pub more_starts : (o : Outcome) (os : List Outcome) → starts os ≤ starts (o ∷ os)
more_starts o os = go (is_start o)
  where
    go : (b : Bool) → starts os ≤ length (cond b (o ∷ filter is_start os) (filter is_start os))
    go true = omega arith
    go false = omega arith

pub one_more_start : (o : Outcome) (os : List Outcome) → is_start o ≡ true → starts (o ∷ os) ≡ suc (starts os)
one_more_start o os e = ap (λ b. length (cond b (o ∷ filter is_start os) (filter is_start os))) e

pub no_more_start : (o : Outcome) (os : List Outcome) → is_start o ≡ false → starts (o ∷ os) ≡ starts os
no_more_start o os e = ap (λ b. length (cond b (o ∷ filter is_start os) (filter is_start os))) e

-- an older thread keeps its start
pub same_start : (o : Outcome) (os : List Outcome) (t : ℕ) → (is_start o ≡ true → o.result ≡ suc (starts os)) → t < suc (starts os) → start_of t (o ∷ os) ≡ start_of t os
same_start o os t h lt = by (is_start o) refl
  where
    by : (b : Bool) → is_start o ≡ b → cond (starts_thread t o) (Some o) (start_of t os) ≡ start_of t os
    by false e = ap (λ b. cond (b && eqb o.result t) (Some o) (start_of t os)) e
    by true e = go (eqb o.result t) refl
      where
        go : (c : Bool) → eqb o.result t ≡ c → cond (starts_thread t o) (Some o) (start_of t os) ≡ start_of t os
        go false d = ap (λ b. cond (b && eqb o.result t) (Some o) (start_of t os)) e ∙ ap (λ b. cond b (Some o) (start_of t os)) d
        go true d = let k = eqb-true o.result t d in let r = h e in absurd (omega (arith, lt, k, r))

-- the newest thread has it by this one
pub new_start : (o : Outcome) (os : List Outcome) (t : ℕ) → is_start o ≡ true → o.result ≡ t → start_of t (o ∷ os) ≡ Some o
new_start o os t e z = ap (λ b. cond (b && eqb o.result t) (Some o) (start_of t os)) e ∙ ap (λ b. cond b (Some o) (start_of t os)) (eq-eqb o.result t z)

-- What the ties of direct predecessors are.
use Rattle.std.proofs.Common.{◌≡◌, ℕ, ◌<◌, Bool, true, false, cond, List, [], ◌∷◌, inl, inr, refl, ap, arith}
use Rattle.std.specs.Prelude.{eqb}
use Rattle.std.proofs.lemmas.Bool.Decides.{nat_tests}
use Rattle.log_closure.specs.declared.tie.Tie.{Tie}
use Rattle.log_closure.specs.Events.{In}
use Rattle.log_closure.specs.Ties.{earlier, needs}

pub needs_in : (ts : List Tie) (t : Tie) → In t ts → 0 < t.number → In (earlier t) (needs ts)
needs_in [] t i pos = absurd i
needs_in (s ∷ ts) t (inl is) pos = go (eqb s.number 0) (let z = ap (λ (x : Tie). x.number) is in not_zero s.number (omega (arith, z)))
  where
    not_zero : (n : ℕ) → 0 < n → eqb n 0 ≡ false
    not_zero n h = grind (arith, nat_tests)

    go : (b : Bool) → b ≡ false → In (earlier t) (cond b (needs ts) (earlier s ∷ needs ts))
    go true e = absurd cc
    go false e = inl (ap earlier is)
needs_in (s ∷ ts) t (inr i) pos = go (eqb s.number 0) (needs_in ts t i pos)
  where
    go : (b : Bool) → In (earlier t) (needs ts) → In (earlier t) (cond b (needs ts) (earlier s ∷ needs ts))
    go true j = j
    go false j = inr j

-- each is that before one of the ties
pub needed : (ts : List Tie) (t : Tie) → In t (needs ts) → (s : Tie) × In s ts × (0 < s.number) × (t ≡ earlier s)
needed [] t i = absurd i
needed (s ∷ ts) t i = go (eqb s.number 0) refl i (λ j. needed ts t j)
  where
    later : (u : Tie) × In u ts × (0 < u.number) × (t ≡ earlier u) → (u : Tie) × In u (s ∷ ts) × (0 < u.number) × (t ≡ earlier u)
    later (u, k, pos, is) = (u, inr k, pos, is)

    go : (b : Bool) → eqb s.number 0 ≡ b → In t (cond b (needs ts) (earlier s ∷ needs ts)) → (In t (needs ts) → (u : Tie) × In u ts × (0 < u.number) × (t ≡ earlier u)) → (u : Tie) × In u (s ∷ ts) × (0 < u.number) × (t ≡ earlier u)
    go true e j rec = later (rec j)
    go false e (inl is) rec = (s, inl refl, grind (arith, nat_tests), is)
    go false e (inr j) rec = later (rec j)

-- Of two runs neither goes on past the other's end.
use Rattle.std.proofs.Common.{◌≡◌, ◌⊎◌, inl, inr, ⊎_elim, List, [], ◌∷◌, ◌++◌, refl, sym, ap, ◌∙◌, subst}
use Rattle.marks.specs.Marks.{Mark}
use Rattle.whole_runs.specs.World.{World}
use Rattle.whole_runs.specs.declared.ending.Ending.{Ending}
use Rattle.whole_runs.specs.Ends.{Follows, IsLast, stops}
use Rattle.whole_runs_laws.specs.Laws.{StepsAreDetermined, FaultsAreDetermined, OneRun}
use Rattle.whole_runs_laws.proofs.Lasts.{last_one, no_step}

-- q goes on from p
data Reaches (p : List Mark) : List Mark → Type 0 where
  same : Reaches p p
  more : {q : List Mark} (m : Mark) → Reaches p q → Reaches p (m ∷ q)

from_nothing : (q : List Mark) → Reaches [] q
from_nothing [] = same
from_nothing (m ∷ q) = more m (from_nothing q)

next_one : (p q : List Mark) → Reaches p q → (p ≡ q) ⊎ ((n : Mark) × Reaches (n ∷ p) q)
next_one p q same = inl refl
next_one p q (more {q = r} m h) =
    ⊎_elim
    (λ e. inr (m, subst (λ z. Reaches (m ∷ p) (m ∷ z)) e same))
    (λ z. inr (z.0, more m z.1))
    (next_one p r h)

module _ (w : World) where
  back : (p q : List Mark) → Reaches p q → Follows w q → Follows w p
  back p q same f = f
  back p q (more {q = r} m h) f = back p r h f.1

  module _ (steps : StepsAreDetermined w) where
    compared : (p q : List Mark) → Follows w p → Follows w q → Reaches p q ⊎ Reaches q p
    compared [] q fp fq = inl (from_nothing q)
    compared (m ∷ p) q fp fq =
        ⊎_elim
        (λ r. ⊎_elim
        (λ e. inr (subst (λ z. Reaches q (m ∷ z)) (sym e) (more m same)))
        (λ z. let f = back (z.0 ∷ p) q z.1 fq in
        inl (subst (λ n. Reaches (n ∷ p) q) (steps p z.0 m f.0.step fp.0.step f.0.made fp.0.made) z.1))
        (next_one p q r))
        (λ r. inr (more m r))
        (compared p q fp.1 fq)

    module _ (faults : FaultsAreDetermined w) where
      reached : (p q l : List Mark) (e : Ending) → Follows w q → IsLast w p l e → Reaches p q → p ≡ q
      reached p q l e fq last r =
          ⊎_elim
          (λ z. z)
          (λ z. absurd (no_step w steps p l z.0 e (back (z.0 ∷ p) q z.1 fq).0 last))
          (next_one p q r)

      pub one_run : OneRun w
      one_run run ran e f a b =
          let same_past : a.past ≡ b.past = ⊎_elim (λ r. reached a.past b.past a.last e b.follows a.ends r) (λ r. sym (reached b.past a.past b.last f a.follows b.ends r)) (compared a.past b.past a.follows b.follows) in
          let both = last_one w faults b.past a.last b.last e f (subst (λ p. IsLast w p a.last e) same_past a.ends) b.ends in
          (a.run_is ∙ (ap (λ p. stops w (a.last ++ p) ++ (a.last ++ p)) same_past ∙ (ap (λ l. stops w (l ++ b.past) ++ (l ++ b.past)) both.0 ∙ sym b.run_is)), both.1)

-- What is wanted above the cut is a function of the marks above it.
use Rattle.std.proofs.Common.{◌≡◌, ◌≢◌, Bool, true, false, cond, List, [], ◌∷◌, ◌++◌, refl, sym, ap, ◌∙◌, subst}
use Rattle.marks.specs.declared.side.Side.TheVariants.{Replay}
use Rattle.marks.specs.Marks.{Mark}
use Rattle.c_code.specs.MarkLists.{Wrong, replay_part, same_side}
use Rattle.c_semantics.specs.Laws.{NextIsOne}
use Rattle.c_semantics.specs.Parts.{ReplayPartIsRight, WantAboveIsOne}
use Rattle.c_semantics.specs.Reading.{Marks}
use Rattle.c_semantics.proofs.ReplayMarks.{keeps}

-- the part of a list is that of its prefix and that of the rest
joined : (ms ns : List Mark) → replay_part (ms ++ ns) ≡ replay_part ms ++ replay_part ns
joined [] ns = refl
joined (m ∷ ms) ns = by (same_side m.side Replay) (joined ms ns)
  where
    by : (b : Bool) → replay_part (ms ++ ns) ≡ replay_part ms ++ replay_part ns → cond b (m ∷ replay_part (ms ++ ns)) (replay_part (ms ++ ns)) ≡ cond b (m ∷ replay_part ms) (replay_part ms) ++ replay_part ns
    by true e = ap (λ l. m ∷ l) e
    by false e = e

pub part_after : (ms : List Mark) (m : Mark) (more : List Mark) → m.side ≡ Replay → replay_part (ms ++ m ∷ more) ≡ replay_part ms ++ m ∷ replay_part more
part_after ms m more e = joined ms (m ∷ more) ∙ ap (λ l. replay_part ms ++ l) (keeps m more e)

pub one_above : (p q r : Marks) → ReplayPartIsRight p r → ReplayPartIsRight q r → NextIsOne r → WantAboveIsOne p q
one_above p q r hp hq next ms ns m n more less same em en right there =
    let left : r (replay_part ms ++ m ∷ replay_part more) ≢ Wrong = subst (λ l. r l ≢ Wrong) (part_after ms m more em) (hp (ms ++ m ∷ more) right) in
    let other : r (replay_part ns ++ n ∷ replay_part less) ≢ Wrong = subst (λ l. r l ≢ Wrong) (part_after ns n less en) (hq (ns ++ n ∷ less) there) in
    next (replay_part ms) m n (replay_part more) (replay_part less) left (subst (λ l. r (l ++ n ∷ replay_part less) ≢ Wrong) (sym same) other)

-- A list that ends and a longer one: nothing follows the end.
use Rattle.std.proofs.Common.{◌≡◌, ℕ, suc, ◌<◌, ◌≤◌, List, [], ◌∷◌, ◌++◌, length, Option, Some, None, refl, arith}
use Rattle.marks.specs.declared.side.Side.{Side}
use Rattle.marks.specs.Marks.{Mark}
use Rattle.marks.specs.Wants.{Want, Answer, Go, Value, Frame, CalledBack, Stopped}
use Rattle.c_code.specs.MarkLists.{Ended, Wrong, closed, reply}
use Rattle.c_semantics.specs.Reading.{Marks, ended, heard, ask}
use Rattle.c_semantics.proofs.Relations.{Bounds, Less, AtMost, Relation, FollowsAll, PassesEnds}

bounds : ℕ → ℕ → Bounds
bounds i j = record { left = i; right = j }

Over : Bounds → Marks → Marks → Type 0
Over k p q = (ms : List Mark) (m : Mark) (more : List Mark) (v : ℕ) → length (ms ++ m ∷ more) ≤ k.left → length ms ≤ k.right → q ms ≡ Ended v → p (ms ++ m ∷ more) ≡ Wrong

never_ends : (ms : List Mark) (v : ℕ) → closed ms ≡ Ended v → ⊥
never_ends [] v e = cc
never_ends (m ∷ ms) v e = cc

heard_over : (r : Option Answer) (go on : Answer → Marks) (ms : List Mark) (m : Mark) (more : List Mark) (v : ℕ)
    → ((a : Answer) → on a ms ≡ Ended v → go a (ms ++ m ∷ more) ≡ Wrong) → heard r on ms ≡ Ended v → heard r go (ms ++ m ∷ more) ≡ Wrong
heard_over None go on ms m more v h e = refl
heard_over (Some Stopped) go on ms m more v h e = absurd (never_ends ms v e)
heard_over (Some Go) go on ms m more v h e = h Go e
heard_over (Some (Value w)) go on ms m more v h e = h (Value w) e
heard_over (Some (Frame at)) go on ms m more v h e = h (Frame at) e
heard_over (Some (CalledBack g args)) go on ms m more v h e = h (CalledBack g args) e

over_asks : (k : Bounds) (side : Side) (want : Want) → Unit {0} → (go on : Answer → Marks) → ((a : Answer) (j : Bounds) → Less j k → Over j (go a) (on a)) → Over k (ask side want go) (ask side want on)
unfolding Over bounds
over_asks k side want ok go on h [] m more v few less e = absurd cc
over_asks k side want ok go on h (x ∷ ms) m more v few less e =
    let a : length (ms ++ m ∷ more) < k.left = omega arith in
    let b : length ms < k.right = omega arith in
    heard_over (reply side want x) go on ms m more v (λ w. h w (bounds (length (ms ++ m ∷ more)) (length ms)) (a, b) ms m more v (omega arith) (omega arith)) e

over_ends : (k : Bounds) (v : ℕ) → Over k (ended v) (ended v)
unfolding Over
over_ends k v [] m more w few less e = refl
over_ends k v (x ∷ ms) m more w few less e = refl

over_counted : (k : Bounds) (f g : ℕ → Marks) → ((j : Bounds) (n m : ℕ) → AtMost j k → j.left < n → j.right < m → Over j (f n) (g m)) → Over k (λ ms. f (suc (length ms)) ms) (λ ms. g (suc (length ms)) ms)
unfolding Over bounds
over_counted k f g h ms m more v few less e =
    h (bounds (length (ms ++ m ∷ more)) (length ms)) (suc (length (ms ++ m ∷ more))) (suc (length ms)) (few, less) (omega arith) (omega arith) ms m more v (omega arith) (omega arith) e

pub over : Relation
unfolding Over
over = record {
  rel = Over;
  follows = λ side want. Unit {0};
  weaker = λ j k p q le c ms m more v few less e. c ms m more v (let x = le.0 in omega arith) (let x = le.1 in omega arith) e;
  wrongs = λ k ms m more v few less e. refl;
  asks = over_asks;
  counted = over_counted;
}

pub over_passes_ends : PassesEnds over
unfolding over
over_passes_ends = over_ends

pub all_overs : FollowsAll over
unfolding over
all_overs side want = tt

pub overs : (p : Marks) → ((k : Bounds) → over.rel k p p) → (ms : List Mark) (m : Mark) (more : List Mark) (v : ℕ) → p ms ≡ Ended v → p (ms ++ m ∷ more) ≡ Wrong
unfolding over Over bounds
overs p c ms m more v e = c (bounds (length (ms ++ m ∷ more)) (length ms)) ms m more v (omega arith) (omega arith) e

-- How many rounds and calls may nest beyond the marks of a list doesn't matter.
use Rattle.std.proofs.Common.{◌≡◌, ℕ, suc, ◌<◌, ◌≤◌, List, [], ◌∷◌, length, Option, Some, None, refl, arith}
use Rattle.marks.specs.declared.side.Side.{Side}
use Rattle.marks.specs.Marks.{Mark}
use Rattle.marks.specs.Wants.{Want, Answer, Go, Value, Frame, CalledBack, Stopped}
use Rattle.c_code.specs.MarkLists.{reply}
use Rattle.c_semantics.specs.Reading.{Marks, heard, ask}
use Rattle.c_semantics.proofs.Relations.{Bounds, Less, AtMost, Relation, FollowsAll, PassesEnds}
use Rattle.c_semantics.proofs.ReplayMarks.{bounds}

-- the same is said of short lists
abbrev pub Alike : Bounds → Marks → Marks → Type 0
Alike k p q = (ms : List Mark) → length ms ≤ k.left → length ms ≤ k.right → p ms ≡ q ms

heard_alike : (r : Option Answer) (go on : Answer → Marks) (ms : List Mark) → ((a : Answer) → go a ms ≡ on a ms) → heard r go ms ≡ heard r on ms
heard_alike None go on ms h = refl
heard_alike (Some Stopped) go on ms h = refl
heard_alike (Some Go) go on ms h = h Go
heard_alike (Some (Value v)) go on ms h = h (Value v)
heard_alike (Some (Frame at)) go on ms h = h (Frame at)
heard_alike (Some (CalledBack g args)) go on ms h = h (CalledBack g args)

alike_asks : (k : Bounds) (side : Side) (want : Want) → (go on : Answer → Marks) → ((a : Answer) (j : Bounds) → Less j k → Alike j (go a) (on a)) → Alike k (ask side want go) (ask side want on)
alike_asks k side want go on h [] few less = refl
alike_asks k side want go on h (m ∷ ms) few less =
    let x : length ms < k.left = omega arith in
    let y : length ms < k.right = omega arith in
    heard_alike (reply side want m) go on ms (λ a. h a (bounds (length ms) (length ms)) (x, y) ms (omega arith) (omega arith))

alike_counted : (k : Bounds) (f g : ℕ → Marks) → ((j : Bounds) (n m : ℕ) → AtMost j k → j.left < n → j.right < m → Alike j (f n) (g m)) → Alike k (λ ms. f (suc (length ms)) ms) (λ ms. g (suc (length ms)) ms)
alike_counted k f g h ms few less = h (bounds (length ms) (length ms)) (suc (length ms)) (suc (length ms)) (few, less) (omega arith) (omega arith) ms (omega arith) (omega arith)

pub alike : Relation
alike = record {
  rel = Alike;
  follows = λ side want. Unit {0};
  weaker = λ j k p q le h ms few less. h ms (let x = le.0 in omega arith) (let x = le.1 in omega arith);
  wrongs = λ k ms few less. refl;
  asks = λ k side want f go on h. alike_asks k side want go on h;
  counted = alike_counted;
}

pub alike_is : (k : Bounds) (p q : Marks) → alike.rel k p q → Alike k p q
unfolding alike
alike_is k p q h = h

pub is_alike : (k : Bounds) (p q : Marks) → Alike k p q → alike.rel k p q
unfolding alike
is_alike k p q h = h

pub all_alike : FollowsAll alike
unfolding alike
all_alike side want = tt

pub ends_alike : PassesEnds alike
unfolding alike
ends_alike k v ms few less = refl

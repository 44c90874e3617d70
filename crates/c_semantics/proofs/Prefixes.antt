-- Two relations between what follows marks: that of a list and its prefixes, and that of two lists with the
-- same prefix.
use Rattle.std.proofs.Common.{◌≢◌, ℕ, suc, ◌<◌, ◌≤◌, List, [], ◌∷◌, ◌++◌, length, Option, Some, None, refl, arith}
use Rattle.marks.specs.declared.side.Side.{Side}
use Rattle.marks.specs.Marks.{Mark}
use Rattle.marks.specs.Wants.{Want, Answer, Go, Value, Frame, CalledBack, Stopped}
use Rattle.c_code.specs.MarkLists.{Ended, Expects, Open, Wrong, closed, reply}
use Rattle.c_semantics.specs.Reading.{Marks, ended, heard, ask}
use Rattle.c_semantics.proofs.Relations.{Bounds, Less, AtMost, Relation, FollowsAll, PassesEnds}

bounds : ℕ → ℕ → Bounds
bounds i j = record { left = i; right = j }

-- where a list is right by p, its prefixes are right by q
Prefix : Bounds → Marks → Marks → Type 0
Prefix k p q = (ms more : List Mark) → length (ms ++ more) ≤ k.left → length ms ≤ k.right → p (ms ++ more) ≢ Wrong → q ms ≢ Wrong

open_is_right : Open ≢ Wrong
open_is_right e = cc

expects_is_right : (side : Side) (want : Want) → Expects side want ≢ Wrong
expects_is_right side want e = cc

ended_is_right : (v : ℕ) → Ended v ≢ Wrong
ended_is_right v e = cc

closed_prefix : (ms more : List Mark) → closed (ms ++ more) ≢ Wrong → closed ms ≢ Wrong
closed_prefix [] more right = open_is_right
closed_prefix (m ∷ ms) more right = absurd (right refl)

heard_prefix : (r : Option Answer) (go on : Answer → Marks) (ms more : List Mark) → ((a : Answer) → go a (ms ++ more) ≢ Wrong → on a ms ≢ Wrong) → heard r go (ms ++ more) ≢ Wrong → heard r on ms ≢ Wrong
heard_prefix None go on ms more h right = absurd (right refl)
heard_prefix (Some Stopped) go on ms more h right = closed_prefix ms more right
heard_prefix (Some Go) go on ms more h right = h Go right
heard_prefix (Some (Value v)) go on ms more h right = h (Value v) right
heard_prefix (Some (Frame at)) go on ms more h right = h (Frame at) right
heard_prefix (Some (CalledBack g args)) go on ms more h right = h (CalledBack g args) right

prefix_ends : (k : Bounds) (v : ℕ) → Prefix k (ended v) (ended v)
unfolding Prefix
prefix_ends k v [] more few less right = ended_is_right v
prefix_ends k v (m ∷ ms) more few less right = absurd (right refl)

prefix_asks : (k : Bounds) (side : Side) (want : Want) → Unit {0} → (go on : Answer → Marks) → ((a : Answer) (j : Bounds) → Less j k → Prefix j (go a) (on a)) → Prefix k (ask side want go) (ask side want on)
unfolding Prefix bounds
prefix_asks k side want ok go on h [] more few less right = expects_is_right side want
prefix_asks k side want ok go on h (m ∷ ms) more few less right =
    let x : length (ms ++ more) < k.left = omega arith in
    let y : length ms < k.right = omega arith in
    heard_prefix (reply side want m) go on ms more (λ a. h a (bounds (length (ms ++ more)) (length ms)) (x, y) ms more (omega arith) (omega arith)) right

prefix_counted : (k : Bounds) (f g : ℕ → Marks) → ((j : Bounds) (n m : ℕ) → AtMost j k → j.left < n → j.right < m → Prefix j (f n) (g m)) → Prefix k (λ ms. f (suc (length ms)) ms) (λ ms. g (suc (length ms)) ms)
unfolding Prefix bounds
prefix_counted k f g h ms more few less right =
    h (bounds (length (ms ++ more)) (length ms)) (suc (length (ms ++ more))) (suc (length ms)) (few, less) (omega arith) (omega arith) ms more (omega arith) (omega arith) right

pub prefix : Relation
unfolding Prefix
prefix = record {
  rel = Prefix;
  follows = λ side want. Unit {0};
  weaker = λ j k p q le c ms more few less right. c ms more (let x = le.0 in omega arith) (let x = le.1 in omega arith) right;
  wrongs = λ k ms more few less right. absurd (right refl);
  asks = prefix_asks;
  counted = prefix_counted;
}

pub prefix_passes_ends : PassesEnds prefix
unfolding prefix
prefix_passes_ends = prefix_ends

pub all_prefixes : FollowsAll prefix
unfolding prefix
all_prefixes side want = tt

pub prefixes : (p : Marks) → ((k : Bounds) → prefix.rel k p p) → (ms more : List Mark) → p (ms ++ more) ≢ Wrong → p ms ≢ Wrong
unfolding prefix Prefix bounds
prefixes p c ms more right = c (bounds (length (ms ++ more)) (length ms)) ms more (omega arith) (omega arith) right

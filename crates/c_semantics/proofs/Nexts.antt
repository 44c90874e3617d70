-- Two lists with the same prefix: what comes next answers one want.
use Rattle.std.proofs.Common.{◌≡◌, ◌≢◌, ℕ, suc, ◌<◌, ◌≤◌, List, [], ◌∷◌, ◌++◌, length, Option, Some, None, refl, arith}
use Rattle.marks.specs.declared.side.Side.{Side}
use Rattle.marks.specs.Marks.{Mark}
use Rattle.marks.specs.Wants.{Want, Answer, Go, Value, Frame, CalledBack, Stopped}
use Rattle.c_code.specs.MarkLists.{Wrong, closed, reply}
use Rattle.c_semantics.specs.Laws.{IsOneWant}
use Rattle.c_semantics.specs.Reading.{Marks, ended, heard, ask}
use Rattle.c_semantics.proofs.Relations.{Bounds, Less, AtMost, Relation, FollowsAll, PassesEnds}

bounds : ℕ → ℕ → Bounds
bounds i j = record { left = i; right = j }

Next : Bounds → Marks → Marks → Type 0
Next k p q = (past : List Mark) (m n : Mark) (ms ns : List Mark) → length (past ++ m ∷ ms) ≤ k.left → length (past ++ n ∷ ns) ≤ k.right → p (past ++ m ∷ ms) ≢ Wrong → q (past ++ n ∷ ns) ≢ Wrong → IsOneWant m n

-- a mark that is heard answers
answered : (r : Option Answer) (go : Answer → Marks) (ms : List Mark) → heard r go ms ≢ Wrong → (a : Answer) × (r ≡ Some a)
answered None go ms right = absurd (right refl)
answered (Some a) go ms right = (a, refl)

one_want : (side : Side) (want : Want) (m n : Mark) → ((a : Answer) × (reply side want m ≡ Some a)) → ((b : Answer) × (reply side want n ≡ Some b)) → IsOneWant m n
one_want side want m n a b = record { side = side; want = want; first = a.0; second = b.0; first_answers = a.1; second_answers = b.1 }

closed_by : (past : List Mark) (m : Mark) (ms : List Mark) → closed (past ++ m ∷ ms) ≡ Wrong
closed_by [] m ms = refl
closed_by (x ∷ past) m ms = refl

heard_next : (r : Option Answer) (go on : Answer → Marks) (past : List Mark) (m n : Mark) (ms ns : List Mark)
    → ((a : Answer) → go a (past ++ m ∷ ms) ≢ Wrong → on a (past ++ n ∷ ns) ≢ Wrong → IsOneWant m n)
    → heard r go (past ++ m ∷ ms) ≢ Wrong → heard r on (past ++ n ∷ ns) ≢ Wrong → IsOneWant m n
heard_next None go on past m n ms ns h left right = absurd (left refl)
heard_next (Some Stopped) go on past m n ms ns h left right = absurd (left (closed_by past m ms))
heard_next (Some Go) go on past m n ms ns h left right = h Go left right
heard_next (Some (Value v)) go on past m n ms ns h left right = h (Value v) left right
heard_next (Some (Frame at)) go on past m n ms ns h left right = h (Frame at) left right
heard_next (Some (CalledBack g args)) go on past m n ms ns h left right = h (CalledBack g args) left right

next_asks : (k : Bounds) (side : Side) (want : Want) → Unit {0} → (go on : Answer → Marks) → ((a : Answer) (j : Bounds) → Less j k → Next j (go a) (on a)) → Next k (ask side want go) (ask side want on)
unfolding Next bounds
next_asks k side want ok go on h [] m n ms ns few less left right = one_want side want m n (answered (reply side want m) go ms left) (answered (reply side want n) on ns right)
next_asks k side want ok go on h (x ∷ past) m n ms ns few less left right =
    let a : length (past ++ m ∷ ms) < k.left = omega arith in
    let b : length (past ++ n ∷ ns) < k.right = omega arith in
    heard_next (reply side want x) go on past m n ms ns (λ w. h w (bounds (length (past ++ m ∷ ms)) (length (past ++ n ∷ ns))) (a, b) past m n ms ns (omega arith) (omega arith)) left right

next_ends : (k : Bounds) (v : ℕ) → Next k (ended v) (ended v)
unfolding Next
next_ends k v [] m n ms ns few less left right = absurd (left refl)
next_ends k v (x ∷ past) m n ms ns few less left right = absurd (left refl)

next_counted : (k : Bounds) (f g : ℕ → Marks) → ((j : Bounds) (n m : ℕ) → AtMost j k → j.left < n → j.right < m → Next j (f n) (g m)) → Next k (λ ms. f (suc (length ms)) ms) (λ ms. g (suc (length ms)) ms)
unfolding Next bounds
next_counted k f g h past m n ms ns few less left right =
    h (bounds (length (past ++ m ∷ ms)) (length (past ++ n ∷ ns))) (suc (length (past ++ m ∷ ms))) (suc (length (past ++ n ∷ ns))) (few, less) (omega arith) (omega arith) past m n ms ns (omega arith) (omega arith) left right

pub next : Relation
unfolding Next
next = record {
  rel = Next;
  follows = λ side want. Unit {0};
  weaker = λ j k p q le c past m n ms ns few less left right. c past m n ms ns (let x = le.0 in omega arith) (let x = le.1 in omega arith) left right;
  wrongs = λ k past m n ms ns few less left right. absurd (left refl);
  asks = next_asks;
  counted = next_counted;
}

pub next_passes_ends : PassesEnds next
unfolding next
next_passes_ends = next_ends

pub all_nexts : FollowsAll next
unfolding next
all_nexts side want = tt

pub nexts : (p : Marks) → ((k : Bounds) → next.rel k p p) → (past : List Mark) (m n : Mark) (ms ns : List Mark) → p (past ++ m ∷ ms) ≢ Wrong → p (past ++ n ∷ ns) ≢ Wrong → IsOneWant m n
unfolding next Next bounds
nexts p c past m n ms ns left right = c (bounds (length (past ++ m ∷ ms)) (length (past ++ n ∷ ns))) past m n ms ns (omega arith) (omega arith) left right

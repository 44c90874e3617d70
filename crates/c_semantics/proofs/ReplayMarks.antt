-- Replay code on both sides: the marks above the cut of a list that is right by the one are right by the other.
use Rattle.std.proofs.Common.{◌≡◌, ◌≢◌, ℕ, suc, ◌<◌, ◌≤◌, cond, List, [], ◌∷◌, length, Option, Some, None, refl, sym, ap, ◌∙◌, subst, arith}
use Rattle.marks.specs.declared.side.Side.{Side}
use Rattle.marks.specs.declared.side.Side.TheVariants.{Replay, System}
use Rattle.marks.specs.Marks.{Mark}
use Rattle.marks.specs.Wants.{Want, Answer, Go, Value, Frame, CalledBack, Stopped}
use Rattle.c_code.specs.MarkLists.{Ended, Expects, Open, Wrong, replay_part, reply, same_side}
use Rattle.c_code.proofs.Sides.{is_above}
use Rattle.c_semantics.specs.Reading.{Marks, ended, heard, ask}
use Rattle.c_semantics.proofs.Relations.{Bounds, Less, AtMost, Relation}

abbrev pub bounds : ℕ → ℕ → Bounds
bounds i j = record { left = i; right = j }

-- ---- sides of marks

pub keeps : (m : Mark) (ms : List Mark) → m.side ≡ Replay → replay_part (m ∷ ms) ≡ m ∷ replay_part ms
keeps m ms e = ap (λ s. cond (same_side s Replay) (m ∷ replay_part ms) (replay_part ms)) e

pub drops : (m : Mark) (ms : List Mark) → m.side ≡ System → replay_part (m ∷ ms) ≡ replay_part ms
drops m ms e = ap (λ s. cond (same_side s Replay) (m ∷ replay_part ms) (replay_part ms)) e

-- ---- the relation

abbrev pub Seen : Bounds → Marks → Marks → Type 0
Seen k p q = (ms : List Mark) → length ms ≤ k.left → length (replay_part ms) ≤ k.right → p ms ≢ Wrong → q (replay_part ms) ≢ Wrong

pub open_is_right : Open ≢ Wrong
open_is_right e = cc

pub expects_is_right : (side : Side) (want : Want) → Expects side want ≢ Wrong
expects_is_right side want e = cc

ended_is_right : (v : ℕ) → Ended v ≢ Wrong
ended_is_right v e = cc

pub heard_answers : (r : Option Answer) (go : Answer → Marks) (ms : List Mark) → heard r go ms ≢ Wrong → (x : Answer) × (r ≡ Some x)
heard_answers None go ms right = absurd (right refl)
heard_answers (Some x) go ms right = (x, refl)

pub heard_seen : (r : Option Answer) (go on : Answer → Marks) (ms : List Mark) → ((a : Answer) → go a ms ≢ Wrong → on a (replay_part ms) ≢ Wrong) → heard r go ms ≢ Wrong → heard r on (replay_part ms) ≢ Wrong
heard_seen None go on ms h right = absurd (right refl)
heard_seen (Some Stopped) go on [] h right = open_is_right
heard_seen (Some Stopped) go on (m ∷ ms) h right = absurd (right refl)
heard_seen (Some Go) go on ms h right = h Go right
heard_seen (Some (Value v)) go on ms h right = h (Value v) right
heard_seen (Some (Frame at)) go on ms h right = h (Frame at) right
heard_seen (Some (CalledBack g args)) go on ms h right = h (CalledBack g args) right

pub seen_asks : (k : Bounds) (side : Side) (want : Want) → side ≡ Replay → (go on : Answer → Marks) → ((a : Answer) (j : Bounds) → Less j k → Seen j (go a) (on a)) → Seen k (ask side want go) (ask side want on)
seen_asks k side want is go on h [] few less right = expects_is_right side want
seen_asks k side want is go on h (m ∷ ms) few less right =
    let a = heard_answers (reply side want m) go ms right in
    let e : m.side ≡ Replay = is_above want m a.0 (ap (λ s. reply s want m) (sym is) ∙ a.1) in
    let part : replay_part (m ∷ ms) ≡ m ∷ replay_part ms = keeps m ms e in
    let long : length (replay_part (m ∷ ms)) ≡ suc (length (replay_part ms)) = ap length part in
    let x : length ms < k.left = omega arith in
    let y : length (replay_part ms) < k.right = omega (arith, long, less) in
    subst (λ l. ask side want on l ≢ Wrong) (sym part) (heard_seen (reply side want m) go on ms (λ w. h w (bounds (length ms) (length (replay_part ms))) (x, y) ms (omega arith) (omega arith)) right)

pub seen_ends : (k : Bounds) (v : ℕ) → Seen k (ended v) (ended v)
seen_ends k v [] few less right = ended_is_right v
seen_ends k v (m ∷ ms) few less right = absurd (right refl)

pub seen_counted : (k : Bounds) (f g : ℕ → Marks) → ((j : Bounds) (n m : ℕ) → AtMost j k → j.left < n → j.right < m → Seen j (f n) (g m)) → Seen k (λ ms. f (suc (length ms)) ms) (λ ms. g (suc (length ms)) ms)
seen_counted k f g h ms few less right =
    h (bounds (length ms) (length (replay_part ms))) (suc (length ms)) (suc (length (replay_part ms))) (few, less) (omega arith) (omega arith) ms (omega arith) (omega arith) right

abbrev pub seen : Relation
seen = record {
  rel = Seen;
  follows = λ side want. side ≡ Replay;
  weaker = λ j k p q le c ms few less right. c ms (let x = le.0 in omega arith) (let x = le.1 in omega arith) right;
  wrongs = λ k ms few less right. absurd (right refl);
  asks = seen_asks;
  counted = seen_counted;
}

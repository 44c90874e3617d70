-- What one mark more adds to the events with a link, and to the marks of a thread above the cut.
use Rattle.std.proofs.Common.{◌≡◌, ℕ, ◌+◌, ◌<◌, ◌≤◌, Bool, true, false, ◌&&◌, cond, eqb, List, ◌∷◌, length, get_or, take, refl, sym, ap, ◌∙◌, arith}
use Rattle.std.proofs.lemmas.Bool.{and_parts}
use Rattle.std.proofs.lemmas.List.{take_all}
use Rattle.marks.specs.declared.side.Side.TheVariants.{Replay}
use Rattle.marks.specs.Marks.{Mark, Act, Turn, Load, Store, Enter, Leave, Step, Fault, Made, is_event}
use Rattle.marks.specs.Bytes.{Byte}
use Rattle.c_code.specs.MarkLists.{same_side}
use Rattle.replay_runs.specs.Runs.{Link, clock_of, counts, has, last_clock, marks_of, new_events, steps_since}
use Rattle.replay_runs.specs.Laws.{fresh}
use Rattle.whole_runs.specs.Sides.{seen}
use Rattle.reference_recorder_marks.specs.declared.mark.Mark as coded
use Rattle.reference_recorder_marks.specs.Marks.{act_of, mark_of, past}
use Rattle.reference_recorder_marks.proofs.Past.{past_more}
use Rattle.reference_recorder_stamps.specs.Numbers.{AreSteps}

one : (a : Act) → counts a ≤ 1
one Turn = omega arith
one (Load origin at bytes) = omega arith
one (Store origin at bytes) = omega arith
one (Enter f args at bytes) = omega arith
one (Leave at size) = omega arith
one (Step f args v ins pieces freed) = omega arith
one (Fault kind crosses ins outs access) = omega arith
one (Made e) = omega arith

-- the marks of a thread above the cut
abbrev pub mine : (memory : ℕ → Byte) → (thread : ℕ) → List Mark → List Mark
mine memory t past = marks_of (fresh memory) t (seen past)

pub own_mark : (memory : ℕ → Byte) (t : ℕ) (m : Mark) (p : List Mark) → same_side m.side Replay ≡ true → eqb m.thread t ≡ true → mine memory t (m ∷ p) ≡ m ∷ mine memory t p
own_mark memory t m p above is = ap (λ b. marks_of (fresh memory) t (cond b (m ∷ seen p) (seen p))) above ∙ ap (λ b. cond b (m ∷ mine memory t p) (mine memory t p)) is

pub other_thread : (memory : ℕ → Byte) (t : ℕ) (m : Mark) (p : List Mark) → eqb m.thread t ≡ false → mine memory t (m ∷ p) ≡ mine memory t p
other_thread memory t m p is = go (same_side m.side Replay)
  where
    go : (b : Bool) → marks_of (fresh memory) t (cond b (m ∷ seen p) (seen p)) ≡ mine memory t p
    go true = ap (λ b. cond b (m ∷ mine memory t p) (mine memory t p)) is
    go false = refl

pub other_side : (memory : ℕ → Byte) (t : ℕ) (m : Mark) (p : List Mark) → same_side m.side Replay ≡ false → mine memory t (m ∷ p) ≡ mine memory t p
other_side memory t m p below = ap (λ b. marks_of (fresh memory) t (cond b (m ∷ seen p) (seen p))) below

module _ (ms : List coded.Mark) (i : ℕ) (m : coded.Mark) (lt : i < length ms) (is : m ≡ get_or ms i m) where
  pub events_yes : (l : Link) → has (mark_of m) l ≡ true → new_events l (past (take (i + 1) ms)) ≡ mark_of m ∷ new_events l (past (take i ms))
  events_yes l there = ap (new_events l) (past_more ms i m lt is) ∙ ap (λ b. cond b (mark_of m ∷ new_events l (past (take i ms))) (new_events l (past (take i ms)))) there

  pub events_no : (l : Link) → has (mark_of m) l ≡ false → new_events l (past (take (i + 1) ms)) ≡ new_events l (past (take i ms))
  events_no l absent = ap (new_events l) (past_more ms i m lt is) ∙ ap (λ b. cond b (mark_of m ∷ new_events l (past (take i ms))) (new_events l (past (take i ms)))) absent

  pub seen_yes : same_side m.side Replay ≡ true → seen (past (take (i + 1) ms)) ≡ mark_of m ∷ seen (past (take i ms))
  seen_yes above = ap seen (past_more ms i m lt is) ∙ ap (λ b. cond b (mark_of m ∷ seen (past (take i ms))) (seen (past (take i ms)))) above

  pub seen_no : same_side m.side Replay ≡ false → seen (past (take (i + 1) ms)) ≡ seen (past (take i ms))
  seen_no below = ap seen (past_more ms i m lt is) ∙ ap (λ b. cond b (mark_of m ∷ seen (past (take i ms))) (seen (past (take i ms)))) below

  -- a number of a thread's own marks above the cut, one mark on
  pub own_more : {Y : Type 0} (F : List Mark → Y) (memory : ℕ → Byte) (t : ℕ) → same_side m.side Replay ≡ true → eqb m.thread t ≡ true → F (mine memory t (past (take (i + 1) ms))) ≡ F (mark_of m ∷ mine memory t (past (take i ms)))
  own_more F memory t above own = ap (λ p. F (mine memory t p)) (past_more ms i m lt is) ∙ ap F (own_mark memory t (mark_of m) (past (take i ms)) above own)

  pub other_more : {Y : Type 0} (F : List Mark → Y) (memory : ℕ → Byte) (t : ℕ) → (same_side m.side Replay && eqb m.thread t) ≡ false → F (mine memory t (past (take (i + 1) ms))) ≡ F (mine memory t (past (take i ms)))
  other_more F memory t other = ap (λ p. F (mine memory t p)) (past_more ms i m lt is) ∙ ap F (go (same_side m.side Replay) refl other)
    where
      go : (b : Bool) → same_side m.side Replay ≡ b → (b && eqb m.thread t) ≡ false → mine memory t (mark_of m ∷ past (take i ms)) ≡ mine memory t (past (take i ms))
      go true above e = other_thread memory t (mark_of m) (past (take i ms)) e
      go false below e = other_side memory t (mark_of m) (past (take i ms)) below

  abbrev before : List Mark
  before = past (take i ms)

  abbrev after : List Mark
  after = past (take (i + 1) ms)

  pub count_more : (l : Link) (n k : ℕ) → k ≡ cond (has (mark_of m) l) (n + 1) n → (n ≡ length (new_events l before)) × (n ≤ i) → (k ≡ length (new_events l after)) × (k ≤ i + 1)
  count_more l n k e h = go (has (mark_of m) l) refl e
    where
      go : (b : Bool) → has (mark_of m) l ≡ b → k ≡ cond b (n + 1) n → (k ≡ length (new_events l after)) × (k ≤ i + 1)
      go true there is = let z = ap length (events_yes l there) in (omega (arith, is, h.0, z), omega (arith, is, h.1))
      go false absent is = (is ∙ h.0 ∙ sym (ap length (events_no l absent)), omega (arith, is, h.1))

  pub clock_more : (l : Link) (n k : ℕ) → k ≡ cond (has (mark_of m) l) (clock_of (act_of m.act)) n → n ≡ last_clock (new_events l before) → k ≡ last_clock (new_events l after)
  clock_more l n k e h = go (has (mark_of m) l) refl e
    where
      go : (b : Bool) → has (mark_of m) l ≡ b → k ≡ cond b (clock_of (act_of m.act)) n → k ≡ last_clock (new_events l after)
      go true there is = is ∙ sym (ap last_clock (events_yes l there))
      go false absent is = is ∙ h ∙ sym (ap last_clock (events_no l absent))

  pub steps_more : (t n k : ℕ) → k ≡ cond (same_side m.side Replay && eqb m.thread t) (cond (is_event (act_of m.act)) 0 (counts (act_of m.act) + n)) n → AreSteps before t n → AreSteps after t k
  steps_more t n k e h memory = go (same_side m.side Replay && eqb m.thread t) refl e
    where
      go : (b : Bool) → (same_side m.side Replay && eqb m.thread t) ≡ b → k ≡ cond b (cond (is_event (act_of m.act)) 0 (counts (act_of m.act) + n)) n → k ≡ steps_since (mine memory t after)
      go true own is =
          let p = and_parts (same_side m.side Replay) (eqb m.thread t) own in
          is ∙ ap (λ x. cond (is_event (act_of m.act)) 0 (counts (act_of m.act) + x)) (h memory) ∙ sym (own_more steps_since memory t p.0 p.1)
      go false other is = is ∙ h memory ∙ sym (other_more steps_since memory t other)

  -- a step counts at most 1
  pub steps_small : (t n k : ℕ) → k ≡ cond (same_side m.side Replay && eqb m.thread t) (cond (is_event (act_of m.act)) 0 (counts (act_of m.act) + n)) n → n ≤ i → k ≤ i + 1
  steps_small t n k e le = go (same_side m.side Replay && eqb m.thread t) (is_event (act_of m.act)) e
    where
      go : (b d : Bool) → k ≡ cond b (cond d 0 (counts (act_of m.act) + n)) n → k ≤ i + 1
      go true true is = omega (arith, is)
      go true false is = omega (arith, is, le, one (act_of m.act))
      go false d is = omega (arith, is, le)

-- the marks at the end are all of them
pub at_end : {Y : Type 0} (F : List Mark → Y) (ms : List coded.Mark) (i : ℕ) → length ms ≤ i → F (past (take i ms)) ≡ F (past ms)
at_end F ms i le = ap (λ xs. F (past xs)) (take_all i ms le)

-- One mark more among events and their bytes.
use Rattle.std.proofs.Common.{◌≡◌, ℕ, zero, suc, ◌+◌, ◌*◌, ◌^◌, ◌<◌, ◌≤◌, Bool, true, false, cond, List, [], ◌∷◌, ◌++◌, map, reverse, length, get_or, take, drop, refl, sym, ap, subst, ◌∙◌, arith}
use Rattle.std.specs.Prelude.{sum_by}
use Rattle.std.specs.List.{AllByRecursion}
use Rattle.std.proofs.lemmas.List.{length-append, take_all, map-append, reverse-append, take-append-drop}
use Rattle.std.proofs.lemmas.List.Sums.{sum_by-cons}
use Rattle.marks.specs.Marks.{Mark, is_event}
use Rattle.whole_runs.specs.Records.{size_of}
use Rattle.whole_runs.specs.Ends.{events_of}
use Rattle.reference_recorder_marks.specs.declared.mark.Mark as coded
use Rattle.reference_recorder_marks.specs.Marks.{act_of, mark_of, past}
use Rattle.reference_recorder_marks.proofs.Past.{past_more}

pub all_at : {X : Type 0} → (P : X → Type 0) (xs : List X) (i : ℕ) (x : X) → AllByRecursion P xs → i < length xs → x ≡ get_or xs i x → P x
all_at P [] i x h lt is = absurd (omega (arith, lt))
all_at P (y ∷ xs) zero x h lt is = subst P (sym is) h.0
all_at P (y ∷ xs) (suc i) x h lt is = all_at P xs i x h.1 (omega (arith, lt)) is

pub all_take : {X : Type 0} → (P : X → Type 0) (n : ℕ) (xs : List X) → AllByRecursion P xs → AllByRecursion P (take n xs)
all_take P zero xs h = tt
all_take P (suc n) [] h = tt
all_take P (suc n) (x ∷ xs) h = (h.0, all_take P n xs h.1)

module _ (ms : List coded.Mark) (i : ℕ) (m : coded.Mark) (lt : i < length ms) (is : m ≡ get_or ms i m) where
  pub event_yes : is_event (act_of m.act) ≡ true → events_of (past (take (i + 1) ms)) ≡ mark_of m ∷ events_of (past (take i ms))
  event_yes made = ap events_of (past_more ms i m lt is) ∙ ap (λ b. cond b (mark_of m ∷ events_of (past (take i ms))) (events_of (past (take i ms)))) made

  pub event_no : is_event (act_of m.act) ≡ false → events_of (past (take (i + 1) ms)) ≡ events_of (past (take i ms))
  event_no plain = ap events_of (past_more ms i m lt is) ∙ ap (λ b. cond b (mark_of m ∷ events_of (past (take i ms))) (events_of (past (take i ms)))) plain

  abbrev before : List Mark
  before = events_of (past (take i ms))

  abbrev after : List Mark
  after = events_of (past (take (i + 1) ms))

  pub events_more : (n k : ℕ) → k ≡ cond (is_event (act_of m.act)) (n + 1) n → (n ≡ length before) × (n ≤ i) → (k ≡ length after) × (k ≤ i + 1)
  events_more n k e h = go (is_event (act_of m.act)) refl e
    where
      go : (b : Bool) → is_event (act_of m.act) ≡ b → k ≡ cond b (n + 1) n → (k ≡ length after) × (k ≤ i + 1)
      go true made is = let z = ap length (event_yes made) in (omega (arith, is, h.0, z), omega (arith, is, h.1))
      go false plain is = (is ∙ h.0 ∙ sym (ap length (event_no plain)), omega (arith, is, h.1))

  pub bytes_more : (n size : ℕ) → size ≡ cond (is_event (act_of m.act)) (size_of (mark_of m)) 0 → n ≡ sum_by size_of before → n + size ≡ sum_by size_of after
  bytes_more n size e h = go (is_event (act_of m.act)) refl e
    where
      go : (b : Bool) → is_event (act_of m.act) ≡ b → size ≡ cond b (size_of (mark_of m)) 0 → n + size ≡ sum_by size_of after
      go true made is =
          let z : sum_by size_of after ≡ size_of (mark_of m) + sum_by size_of before = ap (sum_by size_of) (event_yes made) ∙ sum_by-cons size_of (mark_of m) before in
          omega (arith, z, h, is)
      go false plain is = let z : sum_by size_of after ≡ sum_by size_of before = ap (sum_by size_of) (event_no plain) in omega (arith, z, h, is)

  -- each event has less than so many bytes, and other marks have none
  pub bytes_small : (n size : ℕ) → size ≡ cond (is_event (act_of m.act)) (size_of (mark_of m)) 0 → size < 2 ^ 40 → n ≤ length before * 2 ^ 40 → n + size ≤ length after * 2 ^ 40
  bytes_small n size e lt le = go (is_event (act_of m.act)) refl e
    where
      go : (b : Bool) → is_event (act_of m.act) ≡ b → size ≡ cond b (size_of (mark_of m)) 0 → n + size ≤ length after * 2 ^ 40
      go true made is = let z : length after ≡ suc (length before) = ap length (event_yes made) in omega (arith, z, le, lt)
      go false plain is = let z : length after ≡ length before = ap length (event_no plain) in omega (arith, z, le, is)

-- the marks at the end are all of them
pub at_end : {Y : Type 0} (F : List Mark → Y) (ms : List coded.Mark) (i : ℕ) → length ms ≤ i → F (past (take i ms)) ≡ F (past ms)
at_end F ms i le = ap (λ xs. F (past xs)) (take_all i ms le)

-- ---- events of a front are no more than all

events_both : (xs ys : List Mark) → events_of (xs ++ ys) ≡ events_of xs ++ events_of ys
events_both [] ys = refl
events_both (x ∷ xs) ys = go (is_event x.act) (events_both xs ys)
  where
    go : (b : Bool) → events_of (xs ++ ys) ≡ events_of xs ++ events_of ys → cond b (x ∷ events_of (xs ++ ys)) (events_of (xs ++ ys)) ≡ cond b (x ∷ events_of xs) (events_of xs) ++ events_of ys
    go true e = ap (λ zs. x ∷ zs) e
    go false e = e

pub front_events : (ms : List coded.Mark) (i : ℕ) → length (events_of (past (take i ms))) ≤ length (events_of (past ms))
front_events ms i =
    let parts : past ms ≡ past (drop i ms) ++ past (take i ms) = ap past (sym (take-append-drop i ms)) ∙ ap reverse (map-append mark_of (take i ms) (drop i ms)) ∙ reverse-append (map mark_of (take i ms)) (map mark_of (drop i ms)) in
    omega (arith, ap (λ p. length (events_of p)) parts, ap length (events_both (past (drop i ms)) (past (take i ms))), length-append (events_of (past (drop i ms))) (events_of (past (take i ms))))

-- One mark more of a past. The loops over marks, from the oldest on, go by it.
use Rattle.std.proofs.Common.{◌≡◌, ℕ, ◌+◌, ◌<◌, ◌≤◌, List, [], ◌∷◌, ◌++◌, length, get_or, map, reverse, take, refl, sym, ap, ◌∙◌}
use Rattle.std.proofs.lemmas.List.{take_all, take_more, map-append, reverse-append}
use Rattle.marks.specs.Marks as shown
use Rattle.reference_recorder_marks.specs.declared.mark.Mark.{Mark}
use Rattle.reference_recorder_marks.specs.Marks.{mark_of, past}

-- a mark that is put after the others is the newest
pub past_push : (ms : List Mark) (m : Mark) → past (ms ++ m ∷ []) ≡ mark_of m ∷ past ms
past_push ms m = ap reverse (map-append mark_of ms (m ∷ [])) ∙ reverse-append (map mark_of ms) (mark_of m ∷ [])

-- the past after one mark more
pub past_more : (ms : List Mark) (i : ℕ) (m : Mark) → i < length ms → m ≡ get_or ms i m →
    past (take (i + 1) ms) ≡ mark_of m ∷ past (take i ms)
past_more ms i m lt is =
    ap past (take_more ms i m lt ∙ ap (λ (x : Mark). take i ms ++ x ∷ []) (sym is)) ∙ past_push (take i ms) m

-- what is said of a past mark by mark, from the oldest on: where a loop has it after i marks, and its body goes on as it is
-- said of one mark more, the loop has it after i + 1
pub folds : {A : Type 0} (f : List shown.Mark → A) (step : shown.Mark → A → A) →
    ((m : shown.Mark) (p : List shown.Mark) → f (m ∷ p) ≡ step m (f p)) →
    (ms : List Mark) (i : ℕ) (m : Mark) → i < length ms → m ≡ get_or ms i m → (a b : A) →
    a ≡ f (past (take i ms)) → b ≡ step (mark_of m) a → b ≡ f (past (take (i + 1) ms))
folds f step more ms i m lt is a b before after =
    after ∙ ap (step (mark_of m)) before ∙ sym (more (mark_of m) (past (take i ms))) ∙ ap f (sym (past_more ms i m lt is))

-- and at its end it has it of all marks
pub folded : {A : Type 0} (f : List shown.Mark → A) (ms : List Mark) (i : ℕ) → length ms ≤ i → (a : A) →
    a ≡ f (past (take i ms)) → a ≡ f (past ms)
folded f ms i le a before = before ∙ ap (λ xs. f (past xs)) (take_all i ms le)

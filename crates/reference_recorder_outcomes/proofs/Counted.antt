-- One mark more, of calls that are counted.
use Rattle.std.proofs.Common.{◌≡◌, ℕ, suc, ◌+◌, ◌<◌, Bool, true, false, cond, List, ◌∷◌, length, get_or, take, Option, Some, None, refl, sym, ap, ◌∙◌}
use Rattle.std.specs.Prelude.{filter}
use Rattle.whole_runs.specs.Outcomes.{Outcome, act_outcome, outcomes}
use Rattle.reference_recorder_marks.specs.declared.mark.Mark.{Mark}
use Rattle.reference_recorder_marks.specs.Marks.{act_of, past}
use Rattle.reference_recorder_marks.proofs.Past.{past_more}
use Rattle.reference_recorder_outcomes.specs.Outcomes.{holds_of}

-- how many of a kind
abbrev pub count : (Outcome → Bool) → List Mark → ℕ
count p ms = length (filter p (outcomes (past ms)))

abbrev with_one : Option Outcome → List Outcome → List Outcome
with_one None os = os
with_one (Some o) os = o ∷ os

pub count_more : (p : Outcome → Bool) (ms : List Mark) (i : ℕ) (m : Mark) (b : Bool) → i < length ms → m ≡ get_or ms i m → b ≡ holds_of p (act_outcome m.thread (act_of m.act)) →
    count p (take (i + 1) ms) ≡ cond b (suc (count p (take i ms))) (count p (take i ms))
count_more p ms i m b lt is e = ap (λ ps. length (filter p (outcomes ps))) (past_more ms i m lt is) ∙ (by (act_outcome m.thread (act_of m.act)) ∙ ap (λ c. cond c (suc before) before) (sym e))
  where
    before : ℕ
    before = count p (take i ms)

    os : List Outcome
    os = outcomes (past (take i ms))

    go : (o : Outcome) (c : Bool) → length (cond c (o ∷ filter p os) (filter p os)) ≡ cond c (suc (length (filter p os))) (length (filter p os))
    go o true = refl
    go o false = refl

    by : (o : Option Outcome) → length (filter p (with_one o os)) ≡ cond (holds_of p o) (suc before) before
    by None = refl
    by (Some o) = go o (p o)

-- What a mark changes of a run: how many threads there are, and what the code of the others comes to.
use Rattle.std.proofs.Common.{◌≡◌, ◌≢◌, ℕ, zero, suc, ◌<◌, ◌≤◌, Bool, true, false, cond, ◌&&◌, eqb, List, [], ◌∷◌, length, Option, Some, None, refl, ap, ◌∙◌, arith, eqb-true}
use Rattle.std.specs.Prelude.{filter, find}
use Rattle.marks.specs.Marks.{Mark}
use Rattle.marks.specs.Opens.{tail}
use Rattle.c_code.specs.Machine.{Laid, Starting, callee, entry, first}
use Rattle.c_code.specs.MarkLists.{Split, state, step}
use Rattle.c_code.specs.MarkLists as lists
use Rattle.c_code.specs.Valid.{start_sig}
use Rattle.whole_runs.specs.World.{World, main_of}
use Rattle.whole_runs.specs.Sides.{own}
use Rattle.whole_runs.specs.Outcomes.{Outcome, act_outcome, args_of, is_start, outcomes, started, started_with}
use Rattle.whole_runs.specs.Threads.{beginning, comes, ended_with, result_of}

abbrev and_outcome : Option Outcome → List Outcome → List Outcome
and_outcome None os = os
and_outcome (Some o) os = o ∷ os

abbrev starts : List Outcome → ℕ
starts os = length (filter is_start os)

abbrev starts_thread : ℕ → Outcome → Bool
starts_thread t o = is_start o && eqb o.result t

abbrev start_of : ℕ → List Outcome → Option Outcome
start_of t os = find (starts_thread t) os

-- what the mark starts has the next number
abbrev pub StartsNext : List Mark → Option Outcome → Type 0
StartsNext past None = Unit {0}
StartsNext past (Some o) = is_start o ≡ true → o.result ≡ started past

pub outcomes_now : (past : List Mark) (m : Mark) (o : Option Outcome) → act_outcome m.thread m.act ≡ o → outcomes (m ∷ past) ≡ and_outcome o (outcomes past)
outcomes_now past m o e = ap (λ x. and_outcome x (outcomes past)) e

-- ---- how many threads there are

pub started_same : (past : List Mark) (m : Mark) → act_outcome m.thread m.act ≡ None → started (m ∷ past) ≡ started past
started_same past m e = ap (λ os. suc (starts os)) (outcomes_now past m None e)

pub started_by : (past : List Mark) (m : Mark) (o : Outcome) (b : Bool) → act_outcome m.thread m.act ≡ Some o → is_start o ≡ b → started (m ∷ past) ≡ cond b (suc (started past)) (started past)
started_by past m o b e is = ap (λ os. suc (starts os)) (outcomes_now past m (Some o) e) ∙ (ap (λ c. suc (length (cond c (o ∷ filter is_start (outcomes past)) (filter is_start (outcomes past))))) is ∙ by b)
  where
    by : (b : Bool) → suc (length (cond b (o ∷ filter is_start (outcomes past)) (filter is_start (outcomes past)))) ≡ cond b (suc (started past)) (started past)
    by true = refl
    by false = refl

pub started_more : (past : List Mark) (m : Mark) → started past ≤ started (m ∷ past)
started_more past m = go (act_outcome m.thread m.act) refl
  where
    by : (b : Bool) → started (m ∷ past) ≡ cond b (suc (started past)) (started past) → started past ≤ started (m ∷ past)
    by true e = omega (arith, e)
    by false e = omega (arith, e)

    go : (o : Option Outcome) → act_outcome m.thread m.act ≡ o → started past ≤ started (m ∷ past)
    go None e = let k = started_same past m e in omega (arith, k)
    go (Some o) e = by (is_start o) (started_by past m o (is_start o) e refl)

-- ---- the marks and the beginning of another thread

pub own_other : (w : World) (past : List Mark) (m : Mark) (u : ℕ) → m.thread ≢ u → own w u (m ∷ past) ≡ own w u past
own_other w past m u n = go (eqb m.thread u) refl
  where
    go : (b : Bool) → eqb m.thread u ≡ b → cond b (m ∷ own w u past) (own w u past) ≡ own w u past
    go true e = absurd (n (eqb-true m.thread u e))
    go false e = refl

older : (o : Outcome) (os : List Outcome) (u n : ℕ) → (is_start o ≡ true → o.result ≡ n) → u < n → start_of u (o ∷ os) ≡ start_of u os
older o os u n h lt = by (is_start o) refl
  where
    by : (b : Bool) → is_start o ≡ b → cond (starts_thread u o) (Some o) (start_of u os) ≡ start_of u os
    by false e = ap (λ b. cond (b && eqb o.result u) (Some o) (start_of u os)) e
    by true e = go (eqb o.result u) refl
      where
        go : (c : Bool) → eqb o.result u ≡ c → cond (starts_thread u o) (Some o) (start_of u os) ≡ start_of u os
        go false d = ap (λ b. cond (b && eqb o.result u) (Some o) (start_of u os)) e ∙ ap (λ b. cond b (Some o) (start_of u os)) d
        go true d = let k = eqb-true o.result u d in let r = h e in absurd (omega (arith, lt, k, r))

same_start : (past : List Mark) (m : Mark) (u : ℕ) → StartsNext past (act_outcome m.thread m.act) → u < started past → started_with u (m ∷ past) ≡ started_with u past
same_start past m u h lt = go (act_outcome m.thread m.act) refl h
  where
    go : (x : Option Outcome) → act_outcome m.thread m.act ≡ x → StartsNext past x → started_with u (m ∷ past) ≡ started_with u past
    go None e n = ap (λ os. args_of (start_of u os)) (outcomes_now past m None e)
    go (Some o) e n = ap (λ os. args_of (start_of u os)) (outcomes_now past m (Some o) e) ∙ ap args_of (older o (outcomes past) u (started past) n lt)

same_beginning : (w : World) (past : List Mark) (m : Mark) (u : ℕ) → StartsNext past (act_outcome m.thread m.act) → u < started past → beginning w (m ∷ past) u ≡ beginning w past u
same_beginning w past m zero h lt = refl
same_beginning w past m (suc u) h lt = ap (λ xs. Starting (callee w.laid start_sig (first xs)) (tail xs)) (same_start past m (suc u) h lt)

-- what its code comes to
pub comes_other : (w : World) (past : List Mark) (m : Mark) (u : ℕ) → StartsNext past (act_outcome m.thread m.act) → m.thread ≢ u → u < started past → comes w (m ∷ past) u ≡ comes w past u
comes_other w past m u h n lt =
    ap (λ c. step Split w.laid (state Split w.laid c (own w u (m ∷ past)))) (same_beginning w past m u h lt)
    ∙ ap (λ ms. step Split w.laid (state Split w.laid (beginning w past u) ms)) (own_other w past m u n)

-- ---- a thread that made no mark

begins_none : (l : Laid) (f : Option ℕ) (args : List ℕ) → ended_with (step Split l (state Split l (Starting f args) [])) ≡ None
begins_none l None args = refl
begins_none l (Some f) args = go (entry l f)
  where
    go : (e : Option ℕ) → ended_with (lists.started l f args e) ≡ None
    go (Some at) = refl
    go None = refl

pub none_yet : (w : World) (past : List Mark) (t : ℕ) → own w t past ≡ [] → result_of w past t ≡ None
none_yet w past t e = ap (λ ms. ended_with (step Split w.laid (state Split w.laid (beginning w past t) ms))) e ∙ by t
  where
    by : (t : ℕ) → ended_with (step Split w.laid (state Split w.laid (beginning w past t) [])) ≡ None
    by zero = begins_none w.laid (Some (main_of w.laid.code)) []
    by (suc t) = begins_none w.laid (callee w.laid start_sig (first (started_with (suc t) past))) (tail (started_with (suc t) past))

-- What calls came to doesn't depend on the global that a path begins with.
use Rattle.std.proofs.Common.{◌≡◌, ℕ, suc, List, [], ◌∷◌, length, Option, Some, None, refl, ap}
use Rattle.std.specs.Prelude.{filter, ◌==◌}
use Rattle.marks.specs.Marks.{Act, Turn, Load, Store, Enter, Leave, Step, Fault, Made, Mark}
use Rattle.lockset_check_laws.specs.Locks.{LockCalls, deed, holder_after}
use Rattle.whole_runs.specs.Outcomes.{Outcome, act_outcome, holder, is_start, mutex_calls, outcomes, started, used}
use Rattle.reference_recorder_marks.specs.Marks.{without_origin, without_origins}

abbrev with_one : Option Outcome → List Outcome → List Outcome
with_one None os = os
with_one (Some o) os = o ∷ os

same_outcome : (t : ℕ) (a : Act) → act_outcome t (without_origin a) ≡ act_outcome t a
same_outcome t (Load o at bytes) = refl
same_outcome t a = refl

same_deed : (l : LockCalls) (a : Act) → deed l (without_origin a) ≡ deed l a
same_deed l (Load o at bytes) = refl
same_deed l (Store o at bytes) = refl
same_deed l Turn = refl
same_deed l (Enter f args at bytes) = refl
same_deed l (Leave at size) = refl
same_deed l (Step f args v ins pieces freed) = refl
same_deed l (Fault kind crosses ins outs access) = refl
same_deed l (Made e) = refl

pub same_outcomes : (run : List Mark) → outcomes (without_origins run) ≡ outcomes run
same_outcomes [] = refl
same_outcomes (m ∷ run) = (λ i. with_one (same_outcome m.thread m.act i) (same_outcomes run i))

pub same_started : (run : List Mark) → started (without_origins run) ≡ started run
same_started run = ap (λ os. suc (length (filter is_start os))) (same_outcomes run)

pub same_used : (f : ℕ) (run : List Mark) → used f (without_origins run) ≡ used f run
same_used f run = ap (λ os. length (filter (λ (o : Outcome). o.func == f) os)) (same_outcomes run)

pub same_holder : (k : ℕ) (run : List Mark) → holder k (without_origins run) ≡ holder k run
same_holder k [] = refl
same_holder k (m ∷ run) = λ i. holder_after k m.thread (same_deed mutex_calls m.act i) (same_holder k run i)

-- Parts of the checks of a step, each by itself.
use Rattle.std.specs.Prelude.{◌≡◌, ℕ, Bool, true, false, ◌||◌, ◌==◌, List, [], ◌∷◌, None}
use Rattle.marks.specs.declared.fault.FaultKind.TheVariants.{StackFull}
use Rattle.marks.specs.declared.breach.BreachKind.TheVariants.{NoKey}
use Rattle.marks.specs.declared.range.Range.{Range}
use Rattle.marks.specs.Ranges.{range}
use Rattle.marks.specs.Marks.{Mark}
use Rattle.replay_runs.specs.Runs.{Start, marks_of}
use Rattle.replay_runs.specs.Threads.{HasRoom, frame_place}
use Rattle.replay_runs.specs.Pool.{in_use}
use Rattle.replay_runs.specs.Checks.{Checks, Check, Done, is_breach_found, is_fault_found, race_check}

-- a region is committed under the key
abbrev pub key_check : Start → List Mark → (key : ℕ) → Checks → Checks
key_check s past k cs = Check (λ x. (x ≡ k) × (in_use s k past ≡ None)) (is_breach_found NoKey) cs

-- a frame of so many bytes is taken above the cut
abbrev pub frame_checks : Start → List Mark → (thread size : ℕ) → Checks
frame_checks s past t size =
    Check (λ x. HasRoom t (marks_of s t past) size → ⊥) (is_fault_found StackFull)
    (race_check past t true (range (frame_place t (marks_of s t past)) size) Done)

-- one of the ranges begins at the address
abbrev pub any_at : (at : ℕ) → List Range → Bool
any_at at [] = false
any_at at (b ∷ bs) = b.addr == at || any_at at bs
